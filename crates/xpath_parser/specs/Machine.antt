-- The reader of an expression as a machine over tokens, from left to right. No public clause speaks of it.
use Rattle.std.specs.Prelude.{ℕ, Bool, true, false, ◌==◌, nat_lt, if◌then◌else◌, List, [], ◌∷◌, ◌++◌, Option, Some, None}
use Rattle.std.specs.Option.{option_map}
use Rattle.serna_kinds.specs.declared.expressions.Axis.{Axis}
use Rattle.serna_kinds.specs.declared.expressions.Axis.TheVariants as axis
use Rattle.xpath_trees.specs.declared.expr.ArithOp.TheVariants as arith
use Rattle.xpath_trees.specs.declared.expr.Expr.{Expr}
use Rattle.xpath_trees.specs.declared.expr.Expr.TheVariants as expr
use Rattle.xpath_trees.specs.declared.expr.Signs.TheVariants as sign
use Rattle.xpath_tokens.specs.declared.symbol.Operator.{Operator}
use Rattle.xpath_tokens.specs.declared.symbol.Operator.TheVariants as operator
use Rattle.xpath_tokens.specs.declared.symbol.Symbol.{Symbol}
use Rattle.xpath_tokens.specs.declared.symbol.Symbol.TheVariants as symbol
use Rattle.xpath_grammar.specs.declared.operand.Level.{Level}
use Rattle.xpath_grammar.specs.declared.operand.Level.TheVariants as level
use Rattle.xpath_grammar.specs.declared.operand.Path.{Path}
use Rattle.xpath_grammar.specs.declared.operand.Operand.{Operand}
use Rattle.xpath_grammar.specs.declared.operand.Operand.TheVariants as operand
use Rattle.xpath_grammar.specs.declared.operand.Chain.{Chain}
use Rattle.xpath_parser.specs.declared.state.Pending.{Pending}
use Rattle.xpath_parser.specs.declared.state.Pending.TheVariants as pending
use Rattle.xpath_parser.specs.declared.state.Place.{Place}
use Rattle.xpath_parser.specs.declared.state.Place.TheVariants as place
use Rattle.xpath_parser.specs.declared.state.State.{State}
use Rattle.xpath_grammar.specs.Trees.{self_node, parent_node, any_descendant, level_of, rank, once_more}
use Rattle.xpath_grammar.specs.Parts.{here, from_root, with_step, operand_tree, whole, path_behind, chained, longer, begun}

abbrev pub at : Place → List Pending → State
at p s = record { place = p; stack = s }

-- Chains

abbrev pub is_level : Level → Level → Bool
is_level a b = rank a == rank b

-- an operand and what waits for it, when all that binds tighter than this is put together
abbrev pub closed : ℕ → Expr → List Pending → Expr × List Pending
closed least e [] = (e, [])
closed least e (pending.Chain c ∷ s) = if nat_lt least (rank (level_of c.last)) then closed least (chained c e) s else (e, pending.Chain c ∷ s)
closed least e (pending.Minus signs ∷ s) = if nat_lt least 7 then closed least (expr.Negate signs e) s else (e, pending.Minus signs ∷ s)
closed least e (pending.Group ∷ s) = (e, pending.Group ∷ s)
closed least e (pending.Call f args ∷ s) = (e, pending.Call f args ∷ s)
closed least e (pending.Predicate o ∷ s) = (e, pending.Predicate o ∷ s)

-- an operator behind an operand: the chain goes on, or one begins
abbrev pub with_operator : Operator → Expr → List Pending → List Pending
with_operator op e [] = pending.Chain (begun e op) ∷ []
with_operator op e (pending.Chain c ∷ s) =
    if is_level (level_of c.last) (level_of op) then pending.Chain (longer c e op) ∷ s else pending.Chain (begun e op) ∷ (pending.Chain c ∷ s)
with_operator op e (pending.Minus signs ∷ s) = pending.Chain (begun e op) ∷ (pending.Minus signs ∷ s)
with_operator op e (pending.Group ∷ s) = pending.Chain (begun e op) ∷ (pending.Group ∷ s)
with_operator op e (pending.Call f args ∷ s) = pending.Chain (begun e op) ∷ (pending.Call f args ∷ s)
with_operator op e (pending.Predicate o ∷ s) = pending.Chain (begun e op) ∷ (pending.Predicate o ∷ s)

-- Steps

abbrev pub behind : Operand → List Pending → State
behind o s = at (place.Behind o) s

-- where a token leads that a step begins with
abbrev pub after_step : Path → List Pending → Symbol → Option State
after_step p s (symbol.Test t) = Some (behind (operand.Step p axis.Child t []) s)
after_step p s (symbol.NodeType t) = Some (at (place.NodeOpen p axis.Child t) s)
after_step p s (symbol.AxisName a) = Some (at (place.Axis p a) s)
after_step p s symbol.At = Some (at (place.Test p axis.Attribute) s)
after_step p s symbol.Dot = Some (behind (operand.Abbreviated (with_step p self_node)) s)
after_step p s symbol.DotDot = Some (behind (operand.Abbreviated (with_step p parent_node)) s)
after_step p s _ = None

-- where a node test leads behind an axis
abbrev pub after_axis : Path → Axis → List Pending → Symbol → Option State
after_axis p a s (symbol.Test t) = Some (behind (operand.Step p a t []) s)
after_axis p a s (symbol.NodeType t) = Some (at (place.NodeOpen p a t) s)
after_axis p a s _ = None

-- Where an operand is wanted

abbrev pub is_minus : Operator → Bool
is_minus (operator.Arith arith.Subtract) = true
is_minus _ = false

-- A minus sign where an operand is wanted. Behind `|` none may stand.
abbrev pub after_sign : List Pending → Option State
after_sign [] = Some (at place.Operand (pending.Minus sign.Once ∷ []))
after_sign (pending.Chain c ∷ s) = if is_level (level_of c.last) level.Union then None else Some (at place.Operand (pending.Minus sign.Once ∷ (pending.Chain c ∷ s)))
after_sign (pending.Minus signs ∷ s) = Some (at place.Operand (pending.Minus (once_more signs) ∷ s))
after_sign (pending.Group ∷ s) = Some (at place.Operand (pending.Minus sign.Once ∷ (pending.Group ∷ s)))
after_sign (pending.Call f args ∷ s) = Some (at place.Operand (pending.Minus sign.Once ∷ (pending.Call f args ∷ s)))
after_sign (pending.Predicate o ∷ s) = Some (at place.Operand (pending.Minus sign.Once ∷ (pending.Predicate o ∷ s)))

-- where a token leads that an operand begins with
abbrev pub after_first : List Pending → Symbol → Option State
after_first s (symbol.Atom e) = Some (behind (whole e) s)
after_first s (symbol.Callee f) = Some (at (place.Callee f) s)
after_first s (symbol.Operator op) = if is_minus op then after_sign s else None
after_first s symbol.Open = Some (at place.Operand (pending.Group ∷ s))
after_first s symbol.Slash = Some (behind operand.Root s)
after_first s symbol.DoubleSlash = Some (at (place.Step (with_step from_root any_descendant)) s)
after_first s (symbol.Test t) = after_step here s (symbol.Test t)
after_first s (symbol.NodeType t) = after_step here s (symbol.NodeType t)
after_first s (symbol.AxisName a) = after_step here s (symbol.AxisName a)
after_first s symbol.At = after_step here s symbol.At
after_first s symbol.Dot = after_step here s symbol.Dot
after_first s symbol.DotDot = after_step here s symbol.DotDot
after_first s _ = None

-- the `)` of a call without arguments
abbrev pub end_call : List Pending → Option State
end_call (pending.Call f args ∷ s) = Some (behind (whole (expr.Call f args)) s)
end_call _ = None

abbrev pub is_close : Symbol → Bool
is_close symbol.Close = true
is_close _ = false

-- where a token leads right behind the `(` of a call
abbrev pub after_argument : List Pending → Symbol → Option State
after_argument s t = if is_close t then end_call s else after_first s t

-- Behind an operand

-- a `)` behind an operand that is put together
abbrev pub end_group : Expr → List Pending → Option State
end_group e (pending.Group ∷ s) = Some (behind (whole e) s)
end_group e (pending.Call f args ∷ s) = Some (behind (whole (expr.Call f (args ++ e ∷ []))) s)
end_group e _ = None

-- a `,` behind an operand that is put together
abbrev pub next_argument : Expr → List Pending → Option State
next_argument e (pending.Call f args ∷ s) = Some (at place.Operand (pending.Call f (args ++ e ∷ []) ∷ s))
next_argument e _ = None

-- an operand with one more predicate, where it may get one
abbrev pub with_predicate : Operand → Expr → Option Operand
with_predicate operand.Root e = None
with_predicate (operand.Abbreviated p) e = None
with_predicate (operand.Step p a t predicates) e = Some (operand.Step p a t (predicates ++ e ∷ []))
with_predicate (operand.Primary x predicates) e = Some (operand.Primary x (predicates ++ e ∷ []))

-- a `]` behind an operand that is put together
abbrev pub end_predicate : Expr → List Pending → Option State
end_predicate e (pending.Predicate o ∷ s) = option_map (λ p. behind p s) (with_predicate o e)
end_predicate e _ = None

-- a `[` behind an operand
abbrev pub begin_predicate : Operand → List Pending → Option State
begin_predicate operand.Root s = None
begin_predicate (operand.Abbreviated p) s = None
begin_predicate (operand.Step p a t predicates) s = Some (at place.Operand (pending.Predicate (operand.Step p a t predicates) ∷ s))
begin_predicate (operand.Primary x predicates) s = Some (at place.Operand (pending.Predicate (operand.Primary x predicates) ∷ s))

-- an operator behind an operand
abbrev pub after_operator : Operator → Expr × List Pending → State
after_operator op c = at place.Operand (with_operator op c.0 c.1)

-- where a token leads behind `/` alone, and behind no other operand
abbrev pub after_root : Operand → List Pending → Symbol → Option State
after_root operand.Root s t = after_step from_root s t
after_root (operand.Abbreviated p) s t = None
after_root (operand.Step p a x predicates) s t = None
after_root (operand.Primary e predicates) s t = None

-- where a token leads behind an operand
abbrev pub after_operand : Operand → List Pending → Symbol → Option State
after_operand o s (symbol.Operator op) = Some (after_operator op (closed (rank (level_of op)) (operand_tree o) s))
after_operand o s symbol.Close = end_group (closed 0 (operand_tree o) s).0 (closed 0 (operand_tree o) s).1
after_operand o s symbol.CloseBracket = end_predicate (closed 0 (operand_tree o) s).0 (closed 0 (operand_tree o) s).1
after_operand o s symbol.Comma = next_argument (closed 0 (operand_tree o) s).0 (closed 0 (operand_tree o) s).1
after_operand o s symbol.OpenBracket = begin_predicate o s
after_operand o s symbol.Slash = option_map (λ p. at (place.Step p) s) (path_behind o)
after_operand o s symbol.DoubleSlash = option_map (λ p. at (place.Step (with_step p any_descendant)) s) (path_behind o)
after_operand o s (symbol.Test t) = after_root o s (symbol.Test t)
after_operand o s (symbol.NodeType t) = after_root o s (symbol.NodeType t)
after_operand o s (symbol.AxisName a) = after_root o s (symbol.AxisName a)
after_operand o s symbol.At = after_root o s symbol.At
after_operand o s symbol.Dot = after_root o s symbol.Dot
after_operand o s symbol.DotDot = after_root o s symbol.DotDot
after_operand o s _ = None

-- Between the parts of an operand

abbrev pub is_open : Symbol → Bool
is_open symbol.Open = true
is_open _ = false

abbrev pub is_colons : Symbol → Bool
is_colons symbol.Colons = true
is_colons _ = false

-- where a token leads
abbrev pub after_in : Place → List Pending → Symbol → Option State
after_in place.Operand s t = after_first s t
after_in place.Argument s t = after_argument s t
after_in (place.Callee f) s t = if is_open t then Some (at place.Argument (pending.Call f [] ∷ s)) else None
after_in (place.Step p) s t = after_step p s t
after_in (place.Axis p a) s t = if is_colons t then Some (at (place.Test p a) s) else None
after_in (place.Test p a) s t = after_axis p a s t
after_in (place.NodeOpen p a test) s t = if is_open t then Some (at (place.NodeClose p a test) s) else None
after_in (place.NodeClose p a test) s t = if is_close t then Some (behind (operand.Step p a test []) s) else None
after_in (place.Behind o) s t = after_operand o s t

abbrev pub after : State → Symbol → Option State
after state t = after_in state.place state.stack t

-- where tokens lead
abbrev pub run : Option State → List Symbol → Option State
run None ts = None
run (Some state) [] = Some state
run (Some state) (t ∷ ts) = run (after state t) ts

-- before the first token
abbrev pub beginning : State
beginning = at place.Operand []

abbrev pub finished_in : Expr → List Pending → Option Expr
finished_in e [] = Some e
finished_in e (p ∷ s) = None

-- the tree, where the tokens may end
abbrev pub finish_in : Place → List Pending → Option Expr
finish_in (place.Behind o) s = finished_in (closed 0 (operand_tree o) s).0 (closed 0 (operand_tree o) s).1
finish_in _ s = None

abbrev pub finish : State → Option Expr
finish state = finish_in state.place state.stack
