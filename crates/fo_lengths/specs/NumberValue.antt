-- Numbers without a unit (XSL 1.1, 5.9.11), in millionths.
use Rattle.std.specs.Prelude.{◌≡◌, ℕ, ℤ, List}
use Rattle.fo_lengths.specs.Padding.{IsPadded}
use Rattle.fo_lengths.specs.DecimalNumber.{Decimal, IsDecimal, decimal_text, millionths, signed}

-- a decimal number, and so many millionths
pub record IsNumberValue (value : List ℕ) (amount : ℤ) : Type 0 where
  pub number : Decimal
  pub decimal : IsDecimal number
  pub written : value ≡ decimal_text number
  pub exact : amount ≡ signed number.negative (millionths number)

-- the text is a number, spaces at its ends aside
abbrev pub IsNumber : List ℕ → ℤ → Type 0
IsNumber text amount = (value : List ℕ) × IsPadded text value × IsNumberValue value amount
