use Rattle.std.proofs.Common.{◌≡◌, ◌++◌, length, map}
use Rattle.xpath_tokens.specs.declared.symbol.Operator.{Operator}
use Rattle.xpath_trees.specs.declared.expr.Expr.{Expr}
use Rattle.xpath_grammar.specs.Trees.{operands}
use Rattle.xpath_grammar.proofs.parts.operands.Given as goal

abbrev pub invariant-loop-operand : goal.invariant-loop-operand
invariant-loop-operand l = l.all ++ map (λ (other : Operator × Expr). other.1) l.others ≡ operands l.fn.first l.fn.others

abbrev pub decreases-loop-operand : goal.decreases-loop-operand
decreases-loop-operand l = length l.others
