-- The text of a number spells the number.
use Rattle.std.proofs.Common.{◌≡◌, ℕ, zero, suc, ◌^◌, ◌<◌, ◌≤◌, true, false, IsTrue, List, [], ◌∷◌, length, get_or, ℤ, pos, negsuc, neg_ℤ, refl, sym, ◌∙◌, ap, arith, append-nil}
use Rattle.std.specs.Int.RustNames.{unsigned_abs}
use Rattle.std.specs.Fmt.{decimal, signed_decimal}
use Rattle.std.specs.Str.Parse.{AllDigits, digits_value}
use Rattle.std.proofs.lemmas.Bool.{ltb-true, lt-ltb}
use Rattle.std.proofs.lemmas.Fmt.{digits_decimal, digits_value-decimal, length-decimal-le, decimal_nonempty, first_decimal, decimal_digit}
use Rattle.std.proofs.lemmas.Str.Parse.{IsNumeralModel, numerals_by_value, tells_digits}
use Rattle.xpath_values.specs.declared.number.Num.{Num}
use Rattle.xpath_values.specs.declared.number.Num.TheVariants.{NaN, Whole}
use Rattle.xpath_values.specs.Numbers.{IsNumber, is_short}
use Rattle.xpath_values.specs.Numerals.{Spells, IsNumeral, IsDigitsOf, IsWritten, text_number, number_text_of}
use Rattle.xpath_values.proofs.Spelling.{whole_from_spells}
use Rattle.xpath_values.proofs.Sums.{text_number_small}

own : IsNumeralModel (AllDigits 10) (digits_value 10)
own = numerals_by_value (AllDigits 10) tells_digits

-- the digits of a size
decimal_of_size : (n : ℕ) → n < 10 ^ 15 → IsDigitsOf (decimal n) n
decimal_of_size n small =
    let fits : n < 2 ^ 64 = omega arith in
    record {
      decimal = digits_decimal own n fits;
      some = omega (arith, decimal_nonempty n fits);
      amount = digits_value-decimal own n fits;
      no_leading_zero = leading n fits;
    }
  where
    leading : (n : ℕ) → n < 2 ^ 64 → (rest : List ℕ) → decimal n ≡ 48 ∷ rest → rest ≡ []
    leading zero fits rest e = (let one : 48 ∷ [] ≡ 48 ∷ rest = sym (decimal_digit 0 (omega arith)) ∙ e in cc)
    leading (suc n) fits rest e = absurd (omega (arith, first_decimal (suc n) (omega arith) fits, ap (λ t. get_or t 0 0) e))

below : (n : ℕ) → IsTrue (is_short (pos n)) → n < 10 ^ 15
below n short = ltb-true n (10 ^ 15) short

pub written : (value : ℤ) → IsTrue (is_short value) → IsWritten (signed_decimal value) value
written (pos n) short = record { digits = decimal n; written = refl; of_size = decimal_of_size n (below n short) }
written (negsuc n) short = record { digits = decimal (suc n); written = refl; of_size = decimal_of_size (suc n) (below (suc n) short) }

length_of : (n : ℕ) → n < 10 ^ 15 → length (decimal n) ≤ 15
length_of n small = length-decimal-le 15 n (omega arith) small (omega arith)

numeral : (value : ℤ) → IsTrue (is_short value) → IsNumeral (signed_decimal value) value
numeral (pos n) short =
    let is = decimal_of_size n (below n short) in
    record { negative = false; digits = decimal n; written = refl; decimal = is.decimal; some = is.some; few = length_of n (below n short); amount = ap pos (sym is.amount) }
numeral (negsuc n) short =
    let is = decimal_of_size (suc n) (below (suc n) short) in
    record { negative = true; digits = decimal (suc n); written = refl; decimal = is.decimal; some = is.some; few = length_of (suc n) (below (suc n) short); amount = ap (λ k. neg_ℤ (pos k)) (sym is.amount) }

spelt : (value : ℤ) → IsTrue (is_short value) → Spells (signed_decimal value) value
spelt value short = record {
  before = [];
  numeral = signed_decimal value;
  after = [];
  whole = sym (append-nil (signed_decimal value));
  spaces_before = tt;
  spaces_after = tt;
  spelt = numeral value short;
}

pub back : (number : Num) → IsNumber number → text_number (number_text_of number) ≡ number
back NaN is = refl
back (Whole value) is = whole_from_spells (signed_decimal value) value (spelt value is)

pub one_value : (text : List ℕ) (a b : ℤ) → Spells text a → Spells text b → a ≡ b
one_value text a b p q = (let same : Whole a ≡ Whole b = sym (whole_from_spells text a p) ∙ whole_from_spells text b q in cc)

short_by : (text : List ℕ) (n : Num) → text_number text ≡ n → IsNumber n
short_by text NaN e = tt
short_by text (Whole z) e = lt-ltb (unsigned_abs z) (10 ^ 15) (text_number_small text z e)

pub text_number_short : (text : List ℕ) → IsNumber (text_number text)
text_number_short text = short_by text (text_number text) refl
