-- The remainder, as the code takes it in 128 bits.
use Rattle.std.proofs.Common.{◌≡◌, zero, suc, ◌^◌, ◌<◌, ℤ, pos, negsuc, false, to_z, of_z, w64, refl, sym, ◌∙◌, ap, subst, arith, IsTrue, inl, inr, ◌≤ℤ◌}
use Rattle.std.specs.Int.RustNames.{unsigned_abs, int_rem}
use Rattle.std.proofs.lemmas.Bool.{cond-true, cond-false, cases_Bool, le-ltb, lt-ltb, ltb-true, ltb-false}
use Rattle.std.proofs.lemmas.Int.{ints, to_z-of_z, rem_below}
use lib.Signed.{mag, mag_rem}
use mir.Syntax.{w128}
use mir.Val.{SFits}
use Rattle.xpath_values.specs.declared.number.Num.{Num}
use Rattle.xpath_values.specs.declared.number.Num.TheVariants.{NaN, Whole}
use Rattle.xpath_values.specs.Numbers.{IsNumber, is_short, is_zero, number_of, modulo}

not_zero : (r : ℤ) → (of_z w64 r ≡ 0 → ⊥) → is_zero r ≡ false
not_zero (pos zero) apart = absurd (apart refl)
not_zero (pos (suc n)) apart = le-ltb (suc n) 1 (omega arith)
not_zero (negsuc n) apart = le-ltb (suc n) 1 (omega arith)

wide : (z : ℤ) → SFits w64 z → SFits w128 z
wide z fits = let small : mag z < 2 ^ 63 = fits.sfits in record { sfits = omega arith }

-- a number, as it stands in 128 bits
widened : (z x : ℤ) → SFits w64 z → x ≡ to_z w64 (of_z w64 z) → to_z w128 (of_z w128 x) ≡ z
widened z x fits e = ap (λ y. to_z w128 (of_z w128 y)) (e ∙ to_z-of_z w64 z fits) ∙ to_z-of_z w128 z (wide z fits)

pub modulo_whole : (l r : ℤ) → (of_z w64 r ≡ 0 → ⊥) → number_of (int_rem l r) ≡ modulo (Whole l) (Whole r)
modulo_whole l r apart = sym (cond-false (is_zero r) NaN (number_of (int_rem l r)) (not_zero r apart))

pub wide_rem : (l r x y : ℤ) → SFits w64 l → SFits w64 r → x ≡ to_z w64 (of_z w64 l) → y ≡ to_z w64 (of_z w64 r) →
    to_z w128 (of_z w128 (int_rem (to_z w128 (of_z w128 x)) (to_z w128 (of_z w128 y)))) ≡ int_rem l r
wide_rem l r x y fits_l fits_r e f =
    let small : mag l < 2 ^ 63 = fits_l.sfits in
    let fits : SFits w128 (int_rem l r) = record { sfits = omega (arith, mag_rem l r) } in
    ap (λ d. to_z w128 (of_z w128 (int_rem (to_z w128 (of_z w128 x)) d))) (widened r y fits_r f)
    ∙ (ap (λ n. to_z w128 (of_z w128 (int_rem n r))) (widened l x fits_l e) ∙ to_z-of_z w128 (int_rem l r) fits)

-- ---- the laws of the remainder
pub rem_from_zero : (x y : ℤ) → pos 0 ≤ℤ x → pos 0 ≤ℤ int_rem x y
rem_from_zero (pos n) y h = omega (arith, ints)
rem_from_zero (negsuc n) y h = absurd (omega (arith, ints))

pub rem_to_zero : (x y : ℤ) → x ≤ℤ pos 0 → int_rem x y ≤ℤ pos 0
rem_to_zero (pos zero) y h = omega (arith, ints, mag_rem (pos zero) y)
rem_to_zero (pos (suc n)) y h = absurd (omega (arith, ints))
rem_to_zero (negsuc n) y h = omega (arith, ints)

pub size_some : (y : ℤ) → is_zero y ≡ false → 0 < unsigned_abs y
size_some y e = let h = ltb-false (unsigned_abs y) 1 e in omega arith

pub rem_smaller : (x y : ℤ) → is_zero y ≡ false → unsigned_abs (int_rem x y) < unsigned_abs y
rem_smaller x y e = rem_below x y (size_some y e)

pub number_short : (z : ℤ) → IsNumber (number_of z)
number_short z = elim (cases_Bool (is_short z)) [
  | inl short ↦ subst IsNumber (sym (cond-true (is_short z) (Whole z) NaN short)) short
  | inr long ↦ subst IsNumber (sym (cond-false (is_short z) (Whole z) NaN long)) tt
]

pub number_of_short : (z : ℤ) → IsTrue (is_short z) → number_of z ≡ Whole z
number_of_short z short = cond-true (is_short z) (Whole z) NaN short

pub rem_answer : (x y : ℤ) → is_zero y ≡ false → IsTrue (is_short y) → modulo (Whole x) (Whole y) ≡ Whole (int_rem x y)
rem_answer x y some short =
    let below : unsigned_abs y < 10 ^ 15 = ltb-true (unsigned_abs y) (10 ^ 15) short in
    cond-false (is_zero y) NaN (number_of (int_rem x y)) some ∙ number_of_short (int_rem x y) (lt-ltb (unsigned_abs (int_rem x y)) (10 ^ 15) (omega (arith, rem_smaller x y some)))

pub rem_by_zero : (number : Num) → modulo number (Whole (pos 0)) ≡ NaN
rem_by_zero NaN = refl
rem_by_zero (Whole x) = refl
