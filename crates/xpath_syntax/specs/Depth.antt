-- How deep a tree is: how many of its expressions, at most, are each a part of the one before.
use Rattle.std.specs.Prelude.{ℕ, suc, max, List, [], ◌∷◌, map}
use Rattle.xpath_trees.specs.declared.expr.Expr.{Expr}
use Rattle.xpath_trees.specs.declared.expr.Expr.TheOpen.{Expr-F, PathStart-F, Step-F}
use Rattle.xpath_trees.specs.declared.expr.Expr.TheFolds.{fold-Expr, fold-PathStart, fold-Step}
use Rattle.xpath_trees.specs.declared.expr.PathStart.{PathStart}
use Rattle.xpath_trees.specs.declared.expr.Step.{Step}

-- the greatest depth of several trees
abbrev pub deepest : List ℕ → ℕ
deepest [] = 0
deepest (d ∷ ds) = max d (deepest ds)

abbrev pub of_operands : {O : Type 0} → List (O × ℕ) → List ℕ
of_operands others = map (λ other. other.1) others

abbrev pub depth_in : Expr-F ℕ ℕ ℕ → ℕ
depth_in (Expr-F.Or operands) = suc (deepest operands)
depth_in (Expr-F.And operands) = suc (deepest operands)
depth_in (Expr-F.Compare first others) = suc (max first (deepest (of_operands others)))
depth_in (Expr-F.Arith first others) = suc (max first (deepest (of_operands others)))
depth_in (Expr-F.Negate signs operand) = suc operand
depth_in (Expr-F.Union operands) = suc (deepest operands)
depth_in (Expr-F.Path start steps) = suc (max start (deepest steps))
depth_in (Expr-F.Filter filtered predicates) = suc (max filtered (deepest predicates))
depth_in (Expr-F.Text text) = 1
depth_in (Expr-F.Number n) = 1
depth_in (Expr-F.Variable name) = 1
depth_in (Expr-F.Call function arguments) = suc (deepest arguments)

abbrev pub start_depth : PathStart-F ℕ ℕ ℕ → ℕ
start_depth PathStart-F.Context = 0
start_depth PathStart-F.Root = 0
start_depth (PathStart-F.From nodes) = nodes

abbrev pub step_depth : Step-F ℕ ℕ ℕ → ℕ
step_depth step = deepest step.predicates

unfoldable pub depth_of : Expr → ℕ
depth_of = fold-Expr ℕ ℕ ℕ depth_in start_depth step_depth

-- the same of the expression that a path begins with, and of the predicates of a step
unfoldable pub start_depth_of : PathStart → ℕ
start_depth_of = fold-PathStart ℕ ℕ ℕ depth_in start_depth step_depth

unfoldable pub step_depth_of : Step → ℕ
step_depth_of = fold-Step ℕ ℕ ℕ depth_in start_depth step_depth
