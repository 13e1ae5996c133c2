-- Whole numbers. The digits are those of XSL 1.1, 5.9.11; the bound of nine is this project's own.
use Rattle.std.specs.Prelude.{◌≡◌, ℕ, ◌≤◌, List, length}
use Rattle.std.specs.Str.Parse.{AllDigits, digits_value}
use Rattle.fo_lengths.specs.Padding.{IsPadded}

-- one to nine decimal digits, leading zeros among them, and the number that they stand for
pub record IsWholeNumber (digits : List ℕ) (number : ℕ) : Type 0 where
  pub decimal : AllDigits 10 digits
  pub some : 1 ≤ length digits
  pub few : length digits ≤ 9
  pub value : number ≡ digits_value 10 digits

-- the text is a whole number, spaces at its ends aside
abbrev pub IsWhole : List ℕ → ℕ → Type 0
IsWhole text number = (digits : List ℕ) × IsPadded text digits × IsWholeNumber digits number
