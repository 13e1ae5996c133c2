-- What text is a number, and the text of a number (XPath 1.0, 4.2 and 4.4). A text is the list of its
-- characters. That a numeral has 1 to 15 digits and no point is this project's own.
use Rattle.std.specs.Prelude.{◌≡◌, ℕ, ◌≤◌, ◌==◌, ◌&&◌, nat_lt, nat_le, Bool, true, false, if◌then◌else◌, IsTrue, ℤ, pos, negsuc, neg_ℤ, unsigned_abs, List, [], ◌∷◌, ◌++◌, reverse, length}
use Rattle.std.specs.List.{AllByRecursion}
use Rattle.std.specs.Str.{all_ascii_digits}
use Rattle.std.specs.Str.Parse.{AllDigits, digits_value}
use Rattle.std.specs.Fmt.{signed_decimal}
use lib.Chars.{codes}
use Rattle.serna_kinds.specs.Blanks.{is_space}
use Rattle.xpath_values.specs.declared.number.Num.{Num}
use Rattle.xpath_values.specs.declared.number.Num.TheVariants.{NaN, Whole}

abbrev pub AreSpaces : List ℕ → Type 0
AreSpaces text = AllByRecursion (λ c. IsTrue (is_space c)) text

abbrev pub sign_text : Bool → List ℕ
sign_text true = codes "-"
sign_text false = []

-- the value of that size, below 0 behind a minus sign
abbrev pub signed : Bool → ℕ → ℤ
signed true size = neg_ℤ (pos size)
signed false size = pos size

-- an optional minus sign, 1 to 15 digits, and the value that they spell
pub record IsNumeral (numeral : List ℕ) (value : ℤ) : Type 0 where
  pub negative : Bool
  pub digits : List ℕ
  pub written : numeral ≡ sign_text negative ++ digits
  pub decimal : AllDigits 10 digits
  pub some : 1 ≤ length digits
  pub few : length digits ≤ 15
  pub amount : value ≡ signed negative (digits_value 10 digits)

-- a numeral with white space around it
pub record Spells (text : List ℕ) (value : ℤ) : Type 0 where
  pub before : List ℕ
  pub numeral : List ℕ
  pub after : List ℕ
  pub whole : text ≡ before ++ (numeral ++ after)
  pub spaces_before : AreSpaces before
  pub spaces_after : AreSpaces after
  pub spelt : IsNumeral numeral value

-- the text without the white space that it begins with, and without the white space at both ends
abbrev pub without_spaces : List ℕ → List ℕ
without_spaces [] = []
without_spaces (c ∷ cs) = if is_space c then without_spaces cs else c ∷ cs

abbrev pub trimmed : List ℕ → List ℕ
trimmed text = reverse (without_spaces (reverse (without_spaces text)))

abbrev pub digits_number : Bool → List ℕ → Num
digits_number negative digits =
    if all_ascii_digits digits && nat_lt 0 (length digits) && nat_le (length digits) 15 then Whole (signed negative (digits_value 10 digits)) else NaN

abbrev pub numeral_number : List ℕ → Num
numeral_number [] = NaN
numeral_number (c ∷ cs) = if c == 45 then digits_number true cs else digits_number false (c ∷ cs)

-- the number that a text spells, and NaN where it spells none: `text_number text ≡ Whole value` is `Spells text value`
abbrev pub text_number : List ℕ → Num
text_number text = numeral_number (trimmed text)

-- a number's text: `NaN`, or its digits behind a minus sign where it is below 0
abbrev pub number_text_of : Num → List ℕ
number_text_of NaN = codes "NaN"
number_text_of (Whole value) = signed_decimal value

-- the digits of a size, without leading zeros
pub record IsDigitsOf (digits : List ℕ) (size : ℕ) : Type 0 where
  pub decimal : AllDigits 10 digits
  pub some : 1 ≤ length digits
  pub amount : digits_value 10 digits ≡ size
  pub no_leading_zero : (rest : List ℕ) → digits ≡ 48 ∷ rest → rest ≡ []

abbrev pub is_below_zero : ℤ → Bool
is_below_zero (pos n) = false
is_below_zero (negsuc n) = true

-- the text is a minus sign where the value is below 0, and the digits of its size
pub record IsWritten (text : List ℕ) (value : ℤ) : Type 0 where
  pub digits : List ℕ
  pub written : text ≡ sign_text (is_below_zero value) ++ digits
  pub of_size : IsDigitsOf digits (unsigned_abs value)
