use Rattle.std.proofs.Common.{◌≡◌, ℤ, w64, sym, ◌∙◌, ap, subst, rules}
use Rattle.std.specs.Str.{chars}
use Rattle.std.specs.Fmt.{signed_decimal}
use Rattle.std.specs.Result.{IfOk}
use Rattle.std.proofs.lemmas.Fmt.{IsAscii-signed}
use Rattle.std.proofs.lemmas.Int.{to_z-of_z}
use Rattle.std.proofs.lemmas.Str.{chars-IsAscii}
use mir.Val.{SFits}
use Rattle.xpath_values.specs.Numerals.{number_text_of}
use Rattle.xpath_values.proofs.numerals.number_text.Goals as goal

pub returns-in-NaN : goal.returns-in-NaN
unfolding chars
returns-in-NaN c = subst (λ n. IfOk c.from_text.result (λ text. text ≡ number_text_of n)) (sym c.in-NaN.is) c.from_text.ensures

pub returns-in_ok-text-in-Whole : goal.returns-in_ok-text-in-Whole
returns-in_ok-text-in-Whole c =
    let value : ℤ = c.in-Whole.value in
    let fits : SFits w64 value = search rules in
    subst (λ t. IfOk c.from_string.result (λ text. text ≡ t)) (ap chars c.in_ok-text-in-Whole.ensures.ok ∙ (ap (λ z. chars (signed_decimal z)) (to_z-of_z w64 value fits) ∙ (chars-IsAscii (signed_decimal value) (IsAscii-signed value fits.sfits) ∙ ap number_text_of (sym c.in-Whole.is)))) c.from_string.ensures
