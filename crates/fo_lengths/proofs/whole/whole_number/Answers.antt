use Rattle.std.proofs.Common.{length, sym, ◌∙◌}
use Rattle.std.proofs.lemmas.Bool.{eqb-false}
use Rattle.fo_lengths.proofs.Runs.{run_alone}
use Rattle.fo_lengths.proofs.whole.whole_number.Goals as goal

pub returns-else-is_empty-2-clause-only : goal.returns-else-is_empty-2-clause-only
returns-else-is_empty-2-clause-only c number is =
    let lengths = run_alone c.args.digits.now c.split_digits.result.0.now c.split_digits.result.1.now c.split_digits.ensures is.decimal in
    absurd (eqb-false (length c.split_digits.result.1.now) 0 (sym c.is_empty-2.ensures ∙ c.if-is_empty-2.false) lengths.1)
