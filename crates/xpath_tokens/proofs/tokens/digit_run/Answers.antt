use Rattle.std.proofs.Common.{◌∙◌, ap, unwrap_or, length, not, rules, tests}
use Rattle.std.proofs.lemmas.Iterator.{YieldsList-from_slice}
use Rattle.std.proofs.lemmas.Iterator.Search.{position_from_yields_List}
use Rattle.serna_kinds.specs.Qualified.{is_digit}
use Rattle.xpath_tokens.proofs.Runs.{found_or_end}
use Rattle.xpath_tokens.proofs.tokens.digit_run.Goals as goal

pub returns-clause-value : goal.returns-clause-value
returns-clause-value c =
    let text = c.args.text.now in
    let found = position_from_yields_List (λ b. not (is_digit b)) _ _ c.position.result c.position.ensures.ran (YieldsList-from_slice text cc) (λ x b q k. search (rules, tests)) in
    c.unwrap_or.ensures ∙ ap (λ o. unwrap_or o (length text)) found ∙ found_or_end (λ b. not (is_digit b)) text
