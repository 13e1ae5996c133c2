-- Operators by the level of their chains.
use Rattle.std.proofs.Common.{◌≡◌, ◌≤◌, List, refl, arith}
use Rattle.std.specs.List.{AllByRecursion}
use Rattle.serna_kinds.specs.declared.expressions.CompareOp.{CompareOp}
use Rattle.serna_kinds.specs.declared.expressions.CompareOp.TheVariants as compare
use Rattle.xpath_trees.specs.declared.expr.ArithOp.{ArithOp}
use Rattle.xpath_trees.specs.declared.expr.ArithOp.TheVariants as arith_op
use Rattle.xpath_tokens.specs.declared.symbol.Operator.{Operator}
use Rattle.xpath_tokens.specs.declared.symbol.Operator.TheVariants as operator
use Rattle.xpath_grammar.specs.declared.operand.Level.{Level}
use Rattle.xpath_grammar.specs.Trees.{level_of, compare_level, arith_level, rank}
use Rattle.xpath_grammar.specs.Grammar.{Part}

abbrev pub AreAt : Level → List (Operator × Part) → Type 0
AreAt l = AllByRecursion (λ x. level_of x.0 ≡ l)

pub low_compare : (c : CompareOp) → (3 ≤ rank (compare_level c)) × (rank (compare_level c) ≤ 4)
low_compare compare.Equal = (omega arith, omega arith)
low_compare compare.NotEqual = (omega arith, omega arith)
low_compare compare.Less = (omega arith, omega arith)
low_compare compare.LessOrEqual = (omega arith, omega arith)
low_compare compare.Greater = (omega arith, omega arith)
low_compare compare.GreaterOrEqual = (omega arith, omega arith)

pub high_arith : (a : ArithOp) → (5 ≤ rank (arith_level a)) × (rank (arith_level a) ≤ 6)
high_arith arith_op.Add = (omega arith, omega arith)
high_arith arith_op.Subtract = (omega arith, omega arith)
high_arith arith_op.Multiply = (omega arith, omega arith)
high_arith arith_op.Remainder = (omega arith, omega arith)

-- an operator whose rank is 3 or 4 is a comparison, and one whose rank is 5 or 6 an operator on numbers
pub compare_in : (op : Operator) → 3 ≤ rank (level_of op) → rank (level_of op) ≤ 4 → (c : CompareOp) × (op ≡ operator.Compare c)
compare_in operator.Or low high = absurd (omega arith)
compare_in operator.And low high = absurd (omega arith)
compare_in (operator.Compare c) low high = (c, refl)
compare_in (operator.Arith a) low high = absurd (omega (arith, high_arith a))
compare_in operator.Union low high = absurd (omega arith)

pub arith_in : (op : Operator) → 5 ≤ rank (level_of op) → rank (level_of op) ≤ 6 → (a : ArithOp) × (op ≡ operator.Arith a)
arith_in operator.Or low high = absurd (omega arith)
arith_in operator.And low high = absurd (omega arith)
arith_in (operator.Compare c) low high = absurd (omega (arith, low_compare c))
arith_in (operator.Arith a) low high = (a, refl)
arith_in operator.Union low high = absurd (omega arith)
