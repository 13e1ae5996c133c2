use Rattle.std.proofs.Common.{◌-◌, true, sym, ◌∙◌, ap, length, drop, arith, length-drop}
use Rattle.std.proofs.lemmas.List.{take_all}
use Rattle.xpath_values.specs.Numerals.{digits_number}
use Rattle.xpath_values.proofs.Digits.{numeral_minus}
use Rattle.xpath_values.proofs.numerals.numeral_number.Goals as goal

pub returns-then-first-eq45 : goal.returns-then-first-eq45
returns-then-first-eq45 c =
    let v = c.args.numeral.now in
    c.signed_number.ensures ∙ (ap (digits_number true) (take_all (length v - 1) (drop 1 v) (omega (arith, length-drop 1 v))) ∙ sym (numeral_minus v (omega arith) c.if-first-eq45.true))
