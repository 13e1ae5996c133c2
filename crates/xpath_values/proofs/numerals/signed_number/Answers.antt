use Rattle.std.proofs.Common.{◌≡◌, ℕ, ◌<◌, ◌^◌, true, false, pos, neg_ℤ, ◌-ℤ◌, to_z, of_z, w64, sym, ◌∙◌, ap, length, arith, rules}
use Rattle.std.proofs.lemmas.Bool.{eqb-false}
use Rattle.std.proofs.lemmas.Int.{ints}
use Rattle.xpath_values.specs.declared.number.Num.TheVariants.{Whole}
use Rattle.xpath_values.specs.Numerals.{signed, digits_number}
use Rattle.xpath_values.proofs.Digits.{AreDigits, digits_room, digits_number_some, digits_number_none}
use Rattle.xpath_values.proofs.numerals.signed_number.Goals as goal

pub overflow_cast-size : goal.overflow_cast-size
overflow_cast-size c =
    let room : c.in-Some.size < 10 ^ 15 = omega (arith, digits_room c.args.digits.now c.in-Some.ensures.0 (omega arith), c.in-Some.ensures.1) in
    search rules

pub overflow_sub-result : goal.overflow_sub-result
overflow_sub-result c =
    let room : c.in-Some.size < 10 ^ 15 = omega (arith, digits_room c.args.digits.now c.in-Some.ensures.0 (omega arith), c.in-Some.ensures.1) in
    search rules

-- a size, cast to a signed number and its sign turned
negative_cast : (n : ℕ) → n < 10 ^ 15 → to_z w64 (of_z w64 (pos 0 -ℤ to_z w64 n)) ≡ neg_ℤ (pos n)
negative_cast n small = omega (arith, ints)

positive_cast : (n : ℕ) → n < 10 ^ 15 → to_z w64 n ≡ pos n
positive_cast n small = omega (arith, ints)

pub returns-then-is_negative : goal.returns-then-is_negative
returns-then-is_negative c =
    let room : c.in-Some.size < 10 ^ 15 = omega (arith, digits_room c.args.digits.now c.in-Some.ensures.0 (omega arith), c.in-Some.ensures.1) in
    let is : AreDigits c.args.digits.now = record { decimal = c.in-Some.ensures.0; some = omega (arith, eqb-false (length c.args.digits.now) 0 (sym c.if-is_empty.ensures)); few = omega arith } in
    ap Whole (negative_cast c.in-Some.size room ∙ ap (signed true) c.in-Some.ensures.1) ∙ (sym (digits_number_some true c.args.digits.now is) ∙ ap (λ b. digits_number b c.args.digits.now) (sym c.if-is_negative.true))

pub returns-else-is_negative : goal.returns-else-is_negative
returns-else-is_negative c =
    let room : c.in-Some.size < 10 ^ 15 = omega (arith, digits_room c.args.digits.now c.in-Some.ensures.0 (omega arith), c.in-Some.ensures.1) in
    let is : AreDigits c.args.digits.now = record { decimal = c.in-Some.ensures.0; some = omega (arith, eqb-false (length c.args.digits.now) 0 (sym c.if-is_empty.ensures)); few = omega arith } in
    ap Whole (positive_cast c.in-Some.size room ∙ ap (signed false) c.in-Some.ensures.1) ∙ (sym (digits_number_some false c.args.digits.now is) ∙ ap (λ b. digits_number b c.args.digits.now) (sym c.if-is_negative.false))

pub returns-in-None : goal.returns-in-None
returns-in-None c = sym (digits_number_none c.args.is_negative c.args.digits.now (λ is. c.in-None.ensures is.decimal))
