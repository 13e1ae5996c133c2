-- The parts of an expression as they are put together: paths, operands and chains.
use Rattle.std.specs.Prelude.{List, [], ◌∷◌, ◌++◌, Option, Some, None}
use Rattle.serna_kinds.specs.declared.expressions.Axis.{Axis}
use Rattle.xpath_trees.specs.declared.expr.PathStart.TheVariants as start
use Rattle.xpath_trees.specs.declared.expr.Expr.{Expr}
use Rattle.xpath_trees.specs.declared.expr.Expr.TheVariants as expr
use Rattle.xpath_trees.specs.declared.expr.Step.{Step}
use Rattle.xpath_tokens.specs.declared.symbol.Operator.{Operator}
use Rattle.xpath_grammar.specs.declared.operand.Path.{Path}
use Rattle.xpath_grammar.specs.declared.operand.Operand.{Operand}
use Rattle.xpath_grammar.specs.declared.operand.Operand.TheVariants as operand
use Rattle.xpath_grammar.specs.declared.operand.Chain.{Chain}
use Rattle.xpath_grammar.specs.Trees.{step_of, level_of, chain_tree, filtered}

-- Paths

-- a path without steps from the context node, and one from the root
abbrev pub here : Path
here = record { start = start.Context; steps = [] }

abbrev pub from_root : Path
from_root = record { start = start.Root; steps = [] }

abbrev pub with_step : Path → Step → Path
with_step p step = record { start = p.start; steps = p.steps ++ step ∷ [] }

-- Operands

abbrev pub path_tree : Path → Expr
path_tree p = expr.Path p.start p.steps

-- the tree of an operand that ends here
abbrev pub operand_tree : Operand → Expr
operand_tree operand.Root = expr.Path start.Root []
operand_tree (operand.Abbreviated p) = path_tree p
operand_tree (operand.Step p a t predicates) = path_tree (with_step p (step_of a t predicates))
operand_tree (operand.Primary e predicates) = filtered e predicates

-- an operand that is whole
abbrev pub whole : Expr → Operand
whole e = operand.Primary e []

-- where steps go on behind an operand
abbrev pub path_behind : Operand → Option Path
path_behind operand.Root = None
path_behind (operand.Abbreviated p) = Some p
path_behind (operand.Step p a t predicates) = Some (with_step p (step_of a t predicates))
path_behind (operand.Primary e predicates) = Some (record { start = start.From (filtered e predicates); steps = [] })

-- Chains

-- a chain with its last operand
abbrev pub chained : Chain → Expr → Expr
chained c e = chain_tree (level_of c.last) c.first (c.others ++ (c.last, e) ∷ [])

-- a chain with one more operand and the operator behind it
abbrev pub longer : Chain → Expr → Operator → Chain
longer c e op = record { first = c.first; others = c.others ++ (c.last, e) ∷ []; last = op }

-- a chain that begins with this operand and operator
abbrev pub begun : Expr → Operator → Chain
begun e op = record { first = e; others = []; last = op }
