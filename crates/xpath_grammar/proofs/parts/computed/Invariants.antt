use Rattle.std.proofs.Common.{◌≡◌, ◌++◌, length}
use Rattle.std.specs.List.{flat_map}
use Rattle.xpath_tokens.specs.declared.symbol.Operator.{Operator}
use Rattle.xpath_trees.specs.declared.expr.Expr.{Expr}
use Rattle.xpath_grammar.specs.Trees.{computed}
use Rattle.xpath_grammar.proofs.parts.computed.Given as goal

abbrev pub invariant-loop-op : goal.invariant-loop-op
invariant-loop-op l =
    l.pairs ++ flat_map (λ (other : Operator × Expr). computed other.0 other.1) l.others ≡ flat_map (λ (other : Operator × Expr). computed other.0 other.1) l.fn.others

abbrev pub decreases-loop-op : goal.decreases-loop-op
decreases-loop-op l = length l.others
