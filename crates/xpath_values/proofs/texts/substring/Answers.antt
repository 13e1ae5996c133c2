use Rattle.std.proofs.Common.{◌≡◌, ℕ, List, ◌∷◌, Option, Some, None, ℤ, pos, ◌+ℤ◌, ◌-ℤ◌, w64, to_z, of_z, take, rules, sym, ◌∙◌, ap}
use Rattle.std.specs.Int.{int_max}
use Rattle.std.specs.Option.{option_to_list}
use Rattle.std.proofs.lemmas.Int.{to_z-of_z}
use mir.Val.{SFits}
use Rattle.std.specs.Str.{chars}
use Rattle.std.proofs.lemmas.Str.{chars-nil}
use Rattle.xpath_values.specs.declared.number.Num.{Num}
use Rattle.xpath_values.specs.declared.number.Num.TheVariants.{NaN, Whole}
use Rattle.xpath_values.specs.Texts.{substring}
use Rattle.xpath_values.proofs.Intervals.{substring_nan, substring_nan_count, characters_from, characters_between}
use Rattle.xpath_values.proofs.texts.substring.Goals as goal

-- the same call, by arguments that are the same
same_call : (text : List ℕ) (start start' : Num) (count count' : Option Num) → start ≡ start' → count ≡ count' → substring text (start' ∷ option_to_list count') ≡ substring text (start ∷ option_to_list count)
same_call text start start' count count' e f = cc

pub returns-in_default : goal.returns-in_default
returns-in_default c =
    chars-nil ∙ (sym (substring_nan (chars c.args.text.now) c.args.count) ∙ ap (λ s. substring (chars c.args.text.now) (s ∷ option_to_list c.args.count)) (sym c.in_default.is))

pub returns-in_default-count : goal.returns-in_default-count
returns-in_default-count c =
    let start : ℤ = c.in-Whole.start in
    let fits : SFits w64 start = search rules in
    let before = c.places_before.ensures ∙ ap (λ z. int_max z (pos 1)) (to_z-of_z w64 start fits) in
    c.split_behind.ensures.rest ∙ (sym (characters_from start c.places_before.result (chars c.args.text.now) before)
    ∙ same_call (chars c.args.text.now) c.args.start (Whole start) c.args.count None c.in-Whole.is c.in_default-count.is)

pub returns-in-NaN : goal.returns-in-NaN
returns-in-NaN c =
    chars-nil ∙ (sym (substring_nan_count (chars c.args.text.now) c.in-Whole.start)
    ∙ same_call (chars c.args.text.now) c.args.start (Whole c.in-Whole.start) c.args.count (Some NaN) c.in-Whole.is (c.in-Some.is ∙ ap Some c.in-NaN.is))

pub returns-in-Whole-count : goal.returns-in-Whole-count
returns-in-Whole-count c =
    let start : ℤ = c.in-Whole.start in
    let fits : SFits w64 start = search rules in
    let before = c.places_before.ensures ∙ ap (λ z. int_max z (pos 1)) (to_z-of_z w64 start fits) in
    let count : ℤ = c.in-Whole-count.count in
    let fits_count : SFits w64 count = search rules in
    let between : pos c.places_between.result ≡ int_max (start +ℤ count -ℤ int_max start (pos 1)) (pos 0)
    = c.places_between.ensures ∙ (ap (λ z. int_max (z +ℤ to_z w64 (of_z w64 count) -ℤ int_max z (pos 1)) (pos 0)) (to_z-of_z w64 start fits)
    ∙ ap (λ z. int_max (start +ℤ z -ℤ int_max start (pos 1)) (pos 0)) (to_z-of_z w64 count fits_count)) in
    c.split_behind-in-Whole-count.ensures.front ∙ (ap (take c.places_between.result) c.split_behind.ensures.rest
    ∙ (sym (characters_between start count c.places_before.result c.places_between.result (chars c.args.text.now) before between)
    ∙ same_call (chars c.args.text.now) c.args.start (Whole start) c.args.count (Some (Whole count)) c.in-Whole.is (c.in-Some.is ∙ ap Some c.in-Whole-count.is)))
