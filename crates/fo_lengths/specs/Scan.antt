-- What the parts of the readers say of a text: how far a run of digits goes.
use Rattle.std.specs.Prelude.{◌≡◌, ◌≢◌, ℕ, ◌≤◌, false, List, [], ◌∷◌, ◌++◌, None, option_map}
use Rattle.std.specs.Char.{digit_value}
use Rattle.std.specs.Str.Parse.{AllDigits}
use Rattle.fo_lengths.specs.DecimalNumber.{Decimal, decimal_text, fraction_digits}
use Rattle.fo_lengths.specs.ColorValue.{IsChannel}
use Rattle.fo_lengths.specs.declared.decimal.DecimalText.{DecimalText}

-- the text does not begin with that byte
abbrev pub BeginsWithout : ℕ → List ℕ → Type 0
BeginsWithout byte text = (rest : List ℕ) → text ≢ byte ∷ rest

-- the text does not begin with a decimal digit
abbrev pub BeginsWithNoDigit : List ℕ → Type 0
BeginsWithNoDigit [] = Unit {0}
BeginsWithNoDigit (byte ∷ rest) = 10 ≤ digit_value byte

-- digits, all that the text begins with, and the rest
pub record IsSplitBehindDigits (text digits rest : List ℕ) : Type 0 where
  pub whole : text ≡ digits ++ rest
  pub decimal : AllDigits 10 digits
  pub longest : BeginsWithNoDigit rest

-- a number, of as many characters as can belong to it, and the rest; any of its parts may be missing
pub record IsSplitBehindDecimal (text : List ℕ) (number : Decimal) (rest : List ℕ) : Type 0 where
  pub written : text ≡ decimal_text number ++ rest
  pub whole : AllDigits 10 number.whole
  pub fraction : AllDigits 10 (fraction_digits number)
  pub no_sign : number.negative ≡ false → BeginsWithout 45 text
  pub no_point : number.fraction ≡ None → BeginsWithout 46 rest
  pub longest : BeginsWithNoDigit rest

-- a part of rgb( ), the character that ends it, and the rest
pub record IsSplitBehindChannel (text : List ℕ) (end channel : ℕ) (rest : List ℕ) : Type 0 where
  pub digits : List ℕ
  pub written : text ≡ digits ++ (end ∷ rest)
  pub is_channel : IsChannel digits channel

-- the number that the code has taken apart
abbrev pub decimal_of : DecimalText → Decimal
decimal_of d = record { negative = d.is_negative; whole = d.whole.now; fraction = option_map (λ digits. digits.now) d.fraction }
