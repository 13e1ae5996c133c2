-- Calls of the string functions (XPath 1.0, 4.2): how many arguments each takes, and its value. The string arguments
-- and the number arguments stand in two lists, each in order.
use Rattle.std.specs.Prelude.{◌≡◌, ℕ, ◌≤◌, nat_eq, pos, List, [], length, slice_index_or}
use Rattle.std.specs.Option.{is_some}
use Rattle.std.specs.List.{starts_with, concat}
use Rattle.serna_kinds.specs.declared.expressions.TextFunction.{TextFunction}
use Rattle.serna_kinds.specs.declared.expressions.TextFunction.TheVariants.{Concat, StartsWith, Contains, SubstringBefore, SubstringAfter, Substring, StringLength, NormalizeSpace, Translate}
use Rattle.xpath_values.specs.declared.number.Num.{Num}
use Rattle.xpath_values.specs.declared.value.Value.{Value}
use Rattle.xpath_values.specs.declared.value.Value.TheVariants.{Text, Number, Truth}
use Rattle.xpath_values.specs.Numbers.{number_of}
use Rattle.xpath_values.specs.Texts.{first_place, text_before, text_after, substring, normalized, translated}

abbrev pub TakesArguments : TextFunction → ℕ → ℕ → Type 0
TakesArguments Concat texts numbers = (2 ≤ texts) × (numbers ≡ 0)
TakesArguments StartsWith texts numbers = (texts ≡ 2) × (numbers ≡ 0)
TakesArguments Contains texts numbers = (texts ≡ 2) × (numbers ≡ 0)
TakesArguments SubstringBefore texts numbers = (texts ≡ 2) × (numbers ≡ 0)
TakesArguments SubstringAfter texts numbers = (texts ≡ 2) × (numbers ≡ 0)
TakesArguments Substring texts numbers = (texts ≡ 1) × (1 ≤ numbers) × (numbers ≤ 2)
TakesArguments StringLength texts numbers = (texts ≡ 1) × (numbers ≡ 0)
TakesArguments NormalizeSpace texts numbers = (texts ≡ 1) × (numbers ≡ 0)
TakesArguments Translate texts numbers = (texts ≡ 3) × (numbers ≡ 0)

-- a string argument by its place, from 0
abbrev pub argument : List (List ℕ) → ℕ → List ℕ
argument texts place = slice_index_or texts place []

abbrev pub call_value : TextFunction → List (List ℕ) → List Num → Value
call_value Concat texts numbers = Text (concat texts)
call_value StartsWith texts numbers = Truth (starts_with nat_eq (argument texts 0) (argument texts 1))
call_value Contains texts numbers = Truth (is_some (first_place (argument texts 0) (argument texts 1)))
call_value SubstringBefore texts numbers = Text (text_before (argument texts 0) (argument texts 1))
call_value SubstringAfter texts numbers = Text (text_after (argument texts 0) (argument texts 1))
call_value Substring texts numbers = Text (substring (argument texts 0) numbers)
call_value StringLength texts numbers = Number (number_of (pos (length (argument texts 0))))
call_value NormalizeSpace texts numbers = Text (normalized (argument texts 0))
call_value Translate texts numbers = Text (translated (argument texts 0) (argument texts 1) (argument texts 2))
