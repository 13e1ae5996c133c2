-- Comparisons (XPath 1.0, 3.4).
use Rattle.std.specs.Prelude.{Bool, true, false, not, bytes_eq}
use Rattle.std.specs.List.{list_any}
use Rattle.serna_kinds.specs.declared.expressions.CompareOp.{CompareOp}
use Rattle.serna_kinds.specs.declared.expressions.CompareOp.TheVariants.{Equal, NotEqual, Less, LessOrEqual, Greater, GreaterOrEqual}
use Rattle.xpath_values.specs.declared.value.Operand.{Operand}
use Rattle.xpath_values.specs.declared.value.Operand.TheVariants.{Nodes, Text, Number, Truth}
use Rattle.xpath_values.specs.Numbers.{are_equal, is_below, is_up_to}
use Rattle.xpath_values.specs.Values.{is_empty, operand_truth, operand_number, operand_text}

abbrev pub same_truth : Bool → Bool → Bool
same_truth true b = b
same_truth false b = not b

-- `=` where neither side is a node-set: as truths if one is a truth, else as numbers if one is a number, else as texts
abbrev pub is_equal : Operand → Operand → Bool
is_equal (Truth a) right = same_truth a (operand_truth right)
is_equal left (Truth b) = same_truth (operand_truth left) b
is_equal (Number x) right = are_equal x (operand_number right)
is_equal left (Number y) = are_equal (operand_number left) y
is_equal left right = bytes_eq (operand_text left) (operand_text right)

-- a comparison where neither side is a node-set: those of order compare numbers
abbrev pub holds : CompareOp → Operand → Operand → Bool
holds Equal left right = is_equal left right
holds NotEqual left right = not (is_equal left right)
holds Less left right = is_below (operand_number left) (operand_number right)
holds LessOrEqual left right = is_up_to (operand_number left) (operand_number right)
holds Greater left right = is_below (operand_number right) (operand_number left)
holds GreaterOrEqual left right = is_up_to (operand_number right) (operand_number left)

-- any comparison: a node-set against a truth is a truth; else a node-set compares where some member does, by its string-value
abbrev pub compares : CompareOp → Operand → Operand → Bool
compares op (Nodes lefts) (Nodes rights) = list_any (λ left. list_any (λ right. holds op (Text left) (Text right)) rights) lefts
compares op (Nodes lefts) (Truth b) = holds op (Truth (not (is_empty lefts))) (Truth b)
compares op (Truth a) (Nodes rights) = holds op (Truth a) (Truth (not (is_empty rights)))
compares op (Nodes lefts) right = list_any (λ left. holds op (Text left) right) lefts
compares op left (Nodes rights) = list_any (λ right. holds op left (Text right)) rights
compares op left right = holds op left right
