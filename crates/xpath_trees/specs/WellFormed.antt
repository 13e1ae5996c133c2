-- The form that every tree has that was read from a text: operands, steps, predicates and arguments are as many as the grammar
-- wants (XPath 1.0, section 3), and numbers have 15 digits at most (this project's own).
use Rattle.std.specs.Prelude.{ℕ, ◌&&◌, nat_le, nat_lt, Bool, true, List, length, map}
use Rattle.std.specs.List.{list_all}
use Rattle.xpath_trees.specs.declared.expr.Expr.{Expr}
use Rattle.xpath_trees.specs.declared.expr.Expr.TheOpen.{Expr-F, PathStart-F, Step-F}
use Rattle.xpath_trees.specs.declared.expr.Expr.TheFolds.{fold-Expr, fold-PathStart, fold-Step}
use Rattle.xpath_trees.specs.declared.expr.PathStart.{PathStart}
use Rattle.xpath_trees.specs.declared.expr.Step.{Step}
use Rattle.xpath_trees.specs.Functions.{takes}

-- so many at least, and all of them well formed
abbrev pub are_some : ℕ → List Bool → Bool
are_some least parts = nat_le least (length parts) && list_all (λ part. part) parts

abbrev pub operands_in : {O : Type 0} → List (O × Bool) → List Bool
operands_in others = map (λ other. other.1) others

abbrev pub form : Expr-F Bool (List Bool → Bool) Bool → Bool
form (Expr-F.Or operands) = are_some 2 operands
form (Expr-F.And operands) = are_some 2 operands
form (Expr-F.Compare first others) = first && are_some 1 (operands_in others)
form (Expr-F.Arith first others) = first && are_some 1 (operands_in others)
form (Expr-F.Negate signs operand) = operand
form (Expr-F.Union operands) = are_some 2 operands
form (Expr-F.Path start steps) = start steps
form (Expr-F.Filter filtered predicates) = filtered && are_some 1 predicates
form (Expr-F.Text text) = true
form (Expr-F.Number n) = nat_lt n 1000000000000000
form (Expr-F.Variable name) = true
form (Expr-F.Call function arguments) = takes function (length arguments) && are_some 0 arguments

-- only from the root there may be no steps
abbrev pub start_form : PathStart-F Bool (List Bool → Bool) Bool → List Bool → Bool
start_form PathStart-F.Context steps = are_some 1 steps
start_form PathStart-F.Root steps = are_some 0 steps
start_form (PathStart-F.From nodes) steps = nodes && are_some 1 steps

abbrev pub step_form : Step-F Bool (List Bool → Bool) Bool → Bool
step_form step = are_some 0 step.predicates

unfoldable pub is_well_formed : Expr → Bool
is_well_formed = fold-Expr Bool (List Bool → Bool) Bool form start_form step_form

-- the same of where a path begins, by the form of its steps
unfoldable pub is_start_well_formed : PathStart → List Bool → Bool
is_start_well_formed = fold-PathStart Bool (List Bool → Bool) Bool form start_form step_form

-- the same of a step
unfoldable pub is_step_well_formed : Step → Bool
is_step_well_formed = fold-Step Bool (List Bool → Bool) Bool form start_form step_form
