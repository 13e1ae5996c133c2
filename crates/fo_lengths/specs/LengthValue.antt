-- Lengths and percentages: a number with its unit behind it (XSL 1.1, 5.9.6 and 5.9.7). That `0` needs no
-- unit is this project's own, after CSS 2, 4.3.2; it is the text `0` alone.
use Rattle.std.specs.Prelude.{◌≡◌, ℕ, ◌⊎◌, pos, List, ◌++◌}
use lib.Chars.{codes}
use Rattle.fo_lengths.specs.declared.unit.LengthUnit.{LengthUnit}
use Rattle.fo_lengths.specs.declared.lengths.Length.{Length}
use Rattle.fo_lengths.specs.declared.lengths.Length.TheVariants as lengths
use Rattle.fo_lengths.specs.Padding.{IsPadded}
use Rattle.fo_lengths.specs.DecimalNumber.{Decimal, IsDecimal, decimal_text, millionths}
use Rattle.fo_lengths.specs.UnitOfLength.{unit_name, length_in}

-- a number, and the name of a unit behind it
pub record IsMeasure (value : List ℕ) (length : Length) : Type 0 where
  pub number : Decimal
  pub unit : LengthUnit
  pub decimal : IsDecimal number
  pub written : value ≡ decimal_text number ++ unit_name unit
  pub amount : length ≡ length_in unit number.negative (millionths number)

-- 0 without a unit
pub record IsZero (value : List ℕ) (length : Length) : Type 0 where
  pub written : value ≡ codes "0"
  pub amount : length ≡ lengths.Points (pos 0)

abbrev pub IsLengthValue : List ℕ → Length → Type 0
IsLengthValue value length = IsMeasure value length ⊎ IsZero value length

-- the text is a length or a percentage, spaces at its ends aside
abbrev pub IsLength : List ℕ → Length → Type 0
IsLength text length = (value : List ℕ) × IsPadded text value × IsLengthValue value length
