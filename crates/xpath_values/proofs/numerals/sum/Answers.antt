use Rattle.std.proofs.Common.{◌≡◌, ℕ, ℤ, List, sym, ◌∙◌, ap, arith}
use Rattle.std.proofs.lemmas.Int.{ints}
use Rattle.xpath_values.specs.declared.number.Num.TheVariants.{Whole}
use Rattle.xpath_values.specs.Numerals.{text_number}
use Rattle.xpath_values.proofs.Sums.{goes_on_more, text_number_bounds}
use Rattle.xpath_values.proofs.numerals.sum.Goals as goal

pub loop-text-preserved : goal.loop-text-preserved
loop-text-preserved c =
    let text : List ℕ = c.text-item.result in
    let x : ℤ = c.in-Whole.value in
    let number : text_number text ≡ Whole x = ap text_number (sym c.as_text.ensures.characters) ∙ sym c.in-Whole.ensures.number in
    let within = text_number_bounds text x number in (
      goes_on_more _ x _ c.args.texts.now c.loop-text.text-index text _ c.loop-text-test.true c.text-item.is number (omega (arith, ints)) c.loop-text.invariant.0,
      omega (arith, ints, within),
      omega (arith, ints, within),
    )
