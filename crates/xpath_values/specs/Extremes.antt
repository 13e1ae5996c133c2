-- The least and the greatest number that some text of a list spells, and NaN where none spells one.
use Rattle.std.specs.Prelude.{ℕ, List}
use Rattle.std.specs.List.{fold}
use Rattle.std.specs.Int.{int_min, int_max}
use Rattle.xpath_values.specs.declared.number.Num.{Num}
use Rattle.xpath_values.specs.declared.number.Num.TheVariants.{NaN, Whole}
use Rattle.xpath_values.specs.Numerals.{text_number}

-- the lesser and the greater of two numbers, and the other one where one is NaN
abbrev pub lesser : Num → Num → Num
lesser NaN y = y
lesser (Whole a) NaN = Whole a
lesser (Whole a) (Whole b) = Whole (int_min a b)

abbrev pub greater : Num → Num → Num
greater NaN y = y
greater (Whole a) NaN = Whole a
greater (Whole a) (Whole b) = Whole (int_max a b)

abbrev pub least_number : List (List ℕ) → Num
least_number texts = fold (λ least text. lesser least (text_number text)) NaN texts

abbrev pub greatest_number : List (List ℕ) → Num
greatest_number texts = fold (λ greatest text. greater greatest (text_number text)) NaN texts
