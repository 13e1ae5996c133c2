-- Decimal numbers, which stand alone or as the number of a length. The form is that of a number of XSL 1.1, 5.9.11, behind
-- a minus sign where it is negative; the bound of six digits on either side of the point is this project's
-- own.
use Rattle.std.specs.Prelude.{ℕ, ◌+◌, ◌-◌, ◌*◌, ◌^◌, ◌≤◌, Bool, true, false, ℤ, pos, neg_ℤ, List, [], ◌++◌, length, Option, None, Some, unwrap_or}
use Rattle.std.specs.Str.Parse.{AllDigits, digits_value}
use lib.Chars.{codes}

-- the parts of a number: is there a minus sign, the digits before the point, and those behind it, where there is a point
pub record Decimal : Type 0 where
  pub negative : Bool
  pub whole : List ℕ
  pub fraction : Option (List ℕ)

-- the digits behind the point; none where there is no point
abbrev pub fraction_digits : Decimal → List ℕ
fraction_digits d = unwrap_or d.fraction []

abbrev pub sign_text : Bool → List ℕ
sign_text true = codes "-"
sign_text false = []

abbrev pub fraction_text : Option (List ℕ) → List ℕ
fraction_text None = []
fraction_text (Some digits) = codes "." ++ digits

-- how the number is written
abbrev pub decimal_text : Decimal → List ℕ
decimal_text d = sign_text d.negative ++ (d.whole ++ fraction_text d.fraction)

-- up to six digits on either side of the point, and a digit at least
pub record IsDecimal (d : Decimal) : Type 0 where
  pub whole : AllDigits 10 d.whole
  pub whole_few : length d.whole ≤ 6
  pub fraction : AllDigits 10 (fraction_digits d)
  pub fraction_few : length (fraction_digits d) ≤ 6
  pub some : 1 ≤ length d.whole + length (fraction_digits d)

-- the size of the number, its sign aside, in millionths: exact, since there are at most six digits behind the point
abbrev pub millionths : Decimal → ℕ
millionths d = digits_value 10 d.whole * 10 ^ 6 + digits_value 10 (fraction_digits d) * 10 ^ (6 - length (fraction_digits d))

-- the number of that size, below 0 behind a minus sign
abbrev pub signed : Bool → ℕ → ℤ
signed true size = neg_ℤ (pos size)
signed false size = pos size
