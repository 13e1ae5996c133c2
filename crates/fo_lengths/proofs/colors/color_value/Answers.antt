use Rattle.std.proofs.Common.{◌≡◌, ◌∷◌, Some, sym, ◌∙◌, ap, subst, arith}
use Rattle.std.proofs.lemmas.Str.Pattern.{strip_prefix_char}
use Rattle.fo_lengths.specs.ColorValue.{IsHexDigits, IsColorValue}
use Rattle.fo_lengths.proofs.ColorForms.{hex_alone, rgb_alone, name_alone}
use Rattle.fo_lengths.proofs.colors.color_value.Goals as goal

pub returns-in-Some-clause-only : goal.returns-in-Some-clause-only
returns-in-Some-clause-only c color is =
    let whole : c.args.value.now ≡ 35 ∷ c.in-Some.digits.now = strip_prefix_char 35 c.args.value.now (Some c.in-Some.digits) c.in-Some.ensures.cases (omega arith) in
    c.hex_color.ensures.only color
    (subst (λ d. IsHexDigits d color) (sym c.as_bytes.ensures.value) (hex_alone c.in-Some.digits.now color (subst (λ v. IsColorValue v color) whole is)))

pub returns-in-Some-strip_prefix-clause-only : goal.returns-in-Some-strip_prefix-clause-only
returns-in-Some-strip_prefix-clause-only c color is =
    let (n, begins, cut, lengths) = c.in-Some-strip_prefix.ensures.cases in
    let whole : c.args.value.now ≡ 114 ∷ 103 ∷ 98 ∷ 40 ∷ c.in-Some-strip_prefix.channels.now = begins.1 ∙ ap (λ t. 114 ∷ 103 ∷ 98 ∷ 40 ∷ t) (sym cut) in
    c.rgb_color.ensures.only color (rgb_alone c.in-Some-strip_prefix.channels.now color (subst (λ v. IsColorValue v color) whole is))

pub returns-in_default-strip_prefix-clause-only : goal.returns-in_default-strip_prefix-clause-only
unfolding lib.Utf8.encode
returns-in_default-strip_prefix-clause-only c color is =
    c.named_color.ensures ∙ name_alone c.args.value.now color (λ rest e. c.in_default.ensures.cases rest e) (λ rest e. c.in_default-strip_prefix.ensures.cases rest e) is
