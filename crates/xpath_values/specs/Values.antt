-- Values, and what becomes of one as a truth, a number and a text (XPath 1.0, 4.2 to 4.4). The nodes of an
-- operand are their string-values, in document order.
use Rattle.std.specs.Prelude.{ℕ, Bool, true, false, not, List, [], ◌∷◌}
use lib.Chars.{codes}
use Rattle.xpath_values.specs.declared.number.Num.{Num}
use Rattle.xpath_values.specs.declared.value.Value.{Value}
use Rattle.xpath_values.specs.declared.value.Value.TheVariants as value
use Rattle.xpath_values.specs.declared.value.Operand.{Operand}
use Rattle.xpath_values.specs.declared.value.Operand.TheVariants as operand
use Rattle.xpath_values.specs.Numbers.{number_truth, truth_number}
use Rattle.xpath_values.specs.Numerals.{text_number, number_text_of}

abbrev pub is_empty : {X : Type 0} → List X → Bool
is_empty [] = true
is_empty (x ∷ xs) = false

-- a node-set or a text is true where it is not empty
abbrev pub truth : Value → Bool
truth (value.Nodes nodes) = not (is_empty nodes)
truth (value.Text text) = not (is_empty text)
truth (value.Number number) = number_truth number
truth (value.Truth holds) = holds

abbrev pub operand_truth : Operand → Bool
operand_truth (operand.Nodes texts) = not (is_empty texts)
operand_truth (operand.Text text) = not (is_empty text)
operand_truth (operand.Number number) = number_truth number
operand_truth (operand.Truth holds) = holds

-- the string-value of the first node, and the empty text for no node
abbrev pub first_text : List (List ℕ) → List ℕ
first_text [] = []
first_text (text ∷ rest) = text

abbrev pub truth_text_of : Bool → List ℕ
truth_text_of true = codes "true"
truth_text_of false = codes "false"

abbrev pub operand_text : Operand → List ℕ
operand_text (operand.Nodes texts) = first_text texts
operand_text (operand.Text text) = text
operand_text (operand.Number number) = number_text_of number
operand_text (operand.Truth holds) = truth_text_of holds

abbrev pub operand_number : Operand → Num
operand_number (operand.Nodes texts) = text_number (first_text texts)
operand_number (operand.Text text) = text_number text
operand_number (operand.Number number) = number
operand_number (operand.Truth holds) = truth_number holds
