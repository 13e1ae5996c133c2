use Rattle.std.proofs.Common.{◌≡◌, ◌^◌, ℤ, pos, ◌+ℤ◌, ◌-ℤ◌, ◌≤ℤ◌, ◌<ℤ◌, ◌∙◌, ap, w64, to_z, of_z, arith, rules}
use Rattle.std.specs.Int.{int_max}
use Rattle.std.proofs.lemmas.Int.{ints, clamps, to_z-of_z}
use mir.Syntax.{w128}
use mir.Val.{SFits}
use Rattle.xpath_values.proofs.Intervals.{cast_size}
use Rattle.xpath_values.proofs.texts.places_between.Goals as goal

-- a sum and a difference, as they stand in 128 bits
wide_difference : (start count most x y z : ℤ) → SFits w64 start → SFits w64 count → SFits w64 most → x ≡ to_z w64 (of_z w64 start) → y ≡ to_z w64 (of_z w64 count) → z ≡ to_z w64 (of_z w64 most) →
    to_z w128 (of_z w128 (to_z w128 (of_z w128 (to_z w128 (of_z w128 x) +ℤ to_z w128 (of_z w128 y))) -ℤ to_z w128 (of_z w128 z))) ≡ start +ℤ count -ℤ most
wide_difference start count most x y z fits_start fits_count fits_most e f g = omega (arith, ints)

pub overflow_cast-result : goal.overflow_cast-result
overflow_cast-result c =
    let low : pos 0 ≤ℤ c.max-2.result = omega (arith, ints, clamps) in
    let high : c.max-2.result <ℤ pos (2 ^ 64) = omega (arith, ints, clamps) in
    let casts = cast_size c.max-2.result low high in
    (casts.0, casts.1)

pub returns : goal.returns
returns c =
    let low : pos 0 ≤ℤ c.max-2.result = omega (arith, ints, clamps) in
    let high : c.max-2.result <ℤ pos (2 ^ 64) = omega (arith, ints, clamps) in
    let fits : SFits w64 c.args.start = search rules in
    let most : c.max.result ≡ int_max c.args.start (pos 1) = c.max.ensures.value ∙ ap (λ z. int_max z (pos 1)) {y = c.args.start} (to_z-of_z w64 c.args.start fits) in
    let fits_count : SFits w64 c.args.count = search rules in
    let fits_most : SFits w64 c.max.result = search rules in
    let value : c.max-2.result ≡ int_max (c.args.start +ℤ c.args.count -ℤ int_max c.args.start (pos 1)) (pos 0)
    = c.max-2.ensures.value ∙ (ap (λ z. int_max z (pos 0)) (wide_difference c.args.start c.args.count c.max.result _ _ _ fits fits_count fits_most c.from.ensures c.from-2.ensures c.from-3.ensures)
    ∙ ap (λ z. int_max (c.args.start +ℤ c.args.count -ℤ z) (pos 0)) most) in
    (cast_size c.max-2.result low high).2 ∙ value
