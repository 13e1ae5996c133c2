-- Digits, and the number that is written with them.
use Rattle.std.proofs.Common.{◌≡◌, ℕ, zero, suc, ◌^◌, ◌<◌, ◌≤◌, Bool, true, false, ◌&&◌, ◌==◌, nat_lt, nat_le, List, [], ◌∷◌, length, get_or, drop, ℤ, sym, ◌∙◌, arith, inl, inr}
use Rattle.std.specs.Char.{digit_value}
use Rattle.std.specs.Str.{all_ascii_digits}
use Rattle.std.specs.Str.Parse.{AllDigits, digits_value}
use Rattle.std.proofs.Math.Nat.{pow-le-pow_right}
use Rattle.std.proofs.lemmas.Bool.{cases_Bool, and_parts, and_from, cond-true, cond-false, ltb-true, leb-true, lt-ltb, le-leb, eq-eqb, ne_eqb}
use Rattle.std.proofs.lemmas.Int.Digits.{digits_value-lt}
use Rattle.std.proofs.lemmas.Str.Parse.{IsNumeralModel, numerals_by_value, tells_all_ascii_digits}
use Rattle.xpath_values.specs.declared.number.Num.TheVariants.{NaN, Whole}
use Rattle.xpath_values.specs.Numerals.{signed, digits_number, numeral_number}

-- each digit is below the radix
pub digit_at : (ds : List ℕ) (i : ℕ) → AllDigits 10 ds → i < length ds → digit_value (get_or ds i 0) < 10
digit_at [] i all lt = absurd (omega arith)
digit_at (d ∷ ds) zero all lt = all.0
digit_at (d ∷ ds) (suc i) all lt = digit_at ds i all.1 (omega arith)

-- up to 15 digits leave room for one more
pub digits_room : (ds : List ℕ) → AllDigits 10 ds → length ds ≤ 15 → digits_value 10 ds < 10 ^ 15
digits_room ds all few = omega (arith, digits_value-lt 10 ds all, pow-le-pow_right {n = 10} (omega arith) few)

own : IsNumeralModel (λ ds. all_ascii_digits ds ≡ true) (digits_value 10)
own = numerals_by_value _ tells_all_ascii_digits

abbrev is_digits : List ℕ → Bool
is_digits ds = all_ascii_digits ds && nat_lt 0 (length ds) && nat_le (length ds) 15

-- 1 to 15 digits
pub record AreDigits (ds : List ℕ) : Type 0 where
  pub decimal : AllDigits 10 ds
  pub some : 1 ≤ length ds
  pub few : length ds ≤ 15

digits_test : (ds : List ℕ) → AreDigits ds → is_digits ds ≡ true
digits_test ds is =
    and_from (all_ascii_digits ds && nat_lt 0 (length ds)) (nat_le (length ds) 15)
    (and_from (all_ascii_digits ds) (nat_lt 0 (length ds)) (own.from ds is.decimal) (lt-ltb 0 (length ds) (omega (arith, is.some))))
    (le-leb (length ds) 15 is.few)

digits_tested : (ds : List ℕ) → is_digits ds ≡ true → AreDigits ds
digits_tested ds e =
    let outer = and_parts (all_ascii_digits ds && nat_lt 0 (length ds)) (nat_le (length ds) 15) e in
    let inner = and_parts (all_ascii_digits ds) (nat_lt 0 (length ds)) outer.0 in
    let some : 0 < length ds = ltb-true 0 (length ds) inner.1 in
    record { decimal = own.to ds inner.0; some = omega arith; few = leb-true (length ds) 15 outer.1 }

-- what is written with digits is their number
pub digits_number_some : (negative : Bool) (ds : List ℕ) → AreDigits ds → digits_number negative ds ≡ Whole (signed negative (digits_value 10 ds))
digits_number_some negative ds is = cond-true (is_digits ds) (Whole (signed negative (digits_value 10 ds))) NaN (digits_test ds is)

pub digits_number_none : (negative : Bool) (ds : List ℕ) → (AreDigits ds → ⊥) → digits_number negative ds ≡ NaN
digits_number_none negative ds not_so =
    elim (cases_Bool (is_digits ds)) [
      | inl e ↦ absurd (not_so (digits_tested ds e))
      | inr e ↦ cond-false (is_digits ds) (Whole (signed negative (digits_value 10 ds))) NaN e
    ]

pub digits_number_whole : (negative : Bool) (ds : List ℕ) (z : ℤ) → digits_number negative ds ≡ Whole z → AreDigits ds × (z ≡ signed negative (digits_value 10 ds))
digits_number_whole negative ds z h =
    elim (cases_Bool (is_digits ds)) [
      | inl e ↦ (digits_tested ds e, (let same : Whole z ≡ Whole (signed negative (digits_value 10 ds)) = sym h ∙ digits_number_some negative ds (digits_tested ds e) in cc))
      | inr e ↦ absurd (let same : Whole z ≡ NaN = sym h ∙ cond-false (is_digits ds) (Whole (signed negative (digits_value 10 ds))) NaN e in cc)
    ]

-- the number of a text that begins with a minus sign, and of another
pub numeral_minus : (v : List ℕ) → 0 < length v → get_or v 0 0 ≡ 45 → numeral_number v ≡ digits_number true (drop 1 v)
numeral_minus [] lt e = absurd (omega arith)
numeral_minus (c ∷ cs) lt e = cond-true (c == 45) (digits_number true cs) (digits_number false (c ∷ cs)) (eq-eqb c 45 e)

pub numeral_plain : (v : List ℕ) → 0 < length v → (get_or v 0 0 ≡ 45 → ⊥) → numeral_number v ≡ digits_number false v
numeral_plain [] lt apart = absurd (omega arith)
numeral_plain (c ∷ cs) lt apart = cond-false (c == 45) (digits_number true cs) (digits_number false (c ∷ cs)) (ne_eqb c 45 apart)
