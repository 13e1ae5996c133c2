-- The reader of a pattern as a machine over tokens, from left to right. Predicates are read by the machine of expressions. No
-- public clause speaks of it.
use Rattle.std.specs.Prelude.{Bool, true, false, if◌then◌else◌, List, [], ◌∷◌, ◌++◌, Option, Some, None}
use Rattle.std.specs.Option.{option_map}
use Rattle.serna_kinds.specs.declared.expressions.Axis.{Axis}
use Rattle.serna_kinds.specs.declared.expressions.Axis.TheVariants as axis
use Rattle.serna_kinds.specs.declared.expressions.NodeTest.{NodeTest}
use Rattle.xpath_trees.specs.declared.expr.Expr.{Expr}
use Rattle.xpath_trees.specs.declared.expr.Step.{Step}
use Rattle.xpath_trees.specs.declared.pattern.Alternative.{Alternative}
use Rattle.xpath_trees.specs.declared.pattern.Pattern.{Pattern}
use Rattle.xpath_syntax.specs.declared.pattern_state.LastStep.{LastStep}
use Rattle.xpath_syntax.specs.declared.pattern_state.PatternPlace.{PatternPlace}
use Rattle.xpath_syntax.specs.declared.pattern_state.PatternPlace.TheVariants as place
use Rattle.xpath_syntax.specs.declared.pattern_state.PatternState.{PatternState}
use Rattle.xpath_parser.specs.declared.state.State.{State}
use Rattle.xpath_tokens.specs.declared.symbol.Operator.TheVariants as operator
use Rattle.xpath_tokens.specs.declared.symbol.Symbol.{Symbol}
use Rattle.xpath_tokens.specs.declared.symbol.Symbol.TheVariants as symbol
use Rattle.xpath_grammar.specs.Trees.{step_of, any_descendant}
use Rattle.xpath_parser.specs.Machine.{is_open, is_close, is_colons, beginning, after, finish}

-- Paths

-- a path without steps, from any node, and `/` alone
abbrev pub from_context : Alternative
from_context = record { from_root = false; steps = [] }

abbrev pub root_alone : Alternative
root_alone = record { from_root = true; steps = [] }

abbrev pub with_step : Alternative → Step → Alternative
with_step path step = record { from_root = path.from_root; steps = path.steps ++ step ∷ [] }

abbrev pub with_descendants : Alternative → Alternative
with_descendants path = with_step path any_descendant

-- Steps

-- a step without predicates so far
abbrev pub last_step : Alternative → Axis → NodeTest → LastStep
last_step before on test = record { before = before; axis = on; test = test; predicates = [] }

-- the path with its last step
abbrev pub whole : LastStep → Alternative
whole last = with_step last.before (step_of last.axis last.test last.predicates)

abbrev pub with_predicate : LastStep → Expr → LastStep
with_predicate last e = record { before = last.before; axis = last.axis; test = last.test; predicates = last.predicates ++ e ∷ [] }

-- where the name of an axis leads
abbrev pub on_axis : Alternative → Axis → Option PatternPlace
on_axis before axis.Child = Some (place.Axis before axis.Child)
on_axis before axis.Attribute = Some (place.Axis before axis.Attribute)
on_axis before _ = None

-- where a node test leads behind an axis
abbrev pub after_axis : Alternative → Axis → Symbol → Option PatternPlace
after_axis before on (symbol.Test t) = Some (place.Behind (last_step before on t))
after_axis before on (symbol.NodeType t) = Some (place.NodeOpen before on t)
after_axis before on _ = None

-- where a token leads that a step begins with
abbrev pub begin_step : Alternative → Symbol → Option PatternPlace
begin_step before (symbol.AxisName on) = on_axis before on
begin_step before symbol.At = Some (place.Test before axis.Attribute)
begin_step before (symbol.Test t) = Some (place.Behind (last_step before axis.Child t))
begin_step before (symbol.NodeType t) = Some (place.NodeOpen before axis.Child t)
begin_step before _ = None

-- where a token leads that an alternative begins with
abbrev pub after_beginning : Symbol → Option PatternPlace
after_beginning symbol.Slash = Some place.Root
after_beginning symbol.DoubleSlash = Some (place.Step (with_descendants root_alone))
after_beginning (symbol.AxisName on) = begin_step from_context (symbol.AxisName on)
after_beginning symbol.At = begin_step from_context symbol.At
after_beginning (symbol.Test t) = begin_step from_context (symbol.Test t)
after_beginning (symbol.NodeType t) = begin_step from_context (symbol.NodeType t)
after_beginning _ = None

-- where a token leads behind a step, but for `|`
abbrev pub after_last : LastStep → Symbol → Option PatternPlace
after_last last symbol.OpenBracket = Some (place.Predicate last beginning)
after_last last symbol.Slash = Some (place.Step (whole last))
after_last last symbol.DoubleSlash = Some (place.Step (with_descendants (whole last)))
after_last last _ = None

-- Predicates

abbrev pub is_close_bracket : Symbol → Bool
is_close_bracket symbol.CloseBracket = true
is_close_bracket _ = false

-- a predicate has ended with this tree, or else goes on
abbrev pub closes : LastStep → Option Expr → Option State → Option PatternPlace
closes last (Some e) inner = Some (place.Behind (with_predicate last e))
closes last None inner = option_map (place.Predicate last) inner

-- where a token leads in a predicate: it ends at a `]` behind which an expression may end
abbrev pub after_predicate : LastStep → State → Symbol → Option PatternPlace
after_predicate last inner t = closes last (if is_close_bracket t then finish inner else None) (after inner t)

-- Any token

-- where a token leads that ends no alternative
abbrev pub after_path : PatternPlace → Symbol → Option PatternPlace
after_path place.Beginning t = after_beginning t
after_path (place.Step path) t = begin_step path t
after_path (place.Axis path on) t = if is_colons t then Some (place.Test path on) else None
after_path (place.Test path on) t = after_axis path on t
after_path (place.NodeOpen path on test) t = if is_open t then Some (place.NodeClose path on test) else None
after_path (place.NodeClose path on test) t = if is_close t then Some (place.Behind (last_step path on test)) else None
after_path place.Root t = begin_step root_alone t
after_path (place.Behind last) t = after_last last t
after_path (place.Predicate last inner) t = after_predicate last inner t

-- the alternative that may end here
abbrev pub alternative_at : PatternPlace → Option Alternative
alternative_at place.Root = Some root_alone
alternative_at (place.Behind last) = Some (whole last)
alternative_at _ = None

abbrev pub at : List Alternative → PatternPlace → PatternState
at ended p = record { ended = ended; place = p }

-- an alternative has ended, or else one goes on
abbrev pub next : List Alternative → Option Alternative → Option PatternPlace → Option PatternState
next ended (Some path) p = Some (at (ended ++ path ∷ []) place.Beginning)
next ended None p = option_map (at ended) p

abbrev pub is_bar : Symbol → Bool
is_bar (symbol.Operator operator.Union) = true
is_bar _ = false

-- where a token leads: an alternative ends at a `|`, where it may
abbrev pub after_pattern : PatternState → Symbol → Option PatternState
after_pattern state t = next state.ended (if is_bar t then alternative_at state.place else None) (after_path state.place t)

-- where tokens lead
abbrev pub run_pattern : Option PatternState → List Symbol → Option PatternState
run_pattern None ts = None
run_pattern (Some state) [] = Some state
run_pattern (Some state) (t ∷ ts) = run_pattern (after_pattern state t) ts

-- before the first token
abbrev pub pattern_beginning : PatternState
pattern_beginning = at [] place.Beginning

abbrev pub ended_with : List Alternative → Option Alternative → Option Pattern
ended_with ended path = option_map (λ (a : Alternative). record { alternatives = ended ++ a ∷ [] }) path

-- the pattern, where the tokens may end
abbrev pub finish_pattern : PatternState → Option Pattern
finish_pattern state = ended_with state.ended (alternative_at state.place)
