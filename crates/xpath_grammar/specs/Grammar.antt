-- The grammar of expressions (XPath 1.0, sections 2 and 3), without the namespace axis, `processing-instruction( )` and
-- `div`. The numbers are those of the recommendation's productions. A production says which tokens stand for which tree.
use Rattle.std.specs.Prelude.{◌≡◌, ℕ, zero, suc, ◌⊎◌, Bool, true, false, List, [], ◌∷◌, ◌++◌, map}
use Rattle.std.specs.List.{AllByRecursion}
use Rattle.serna_kinds.specs.declared.expressions.Axis.{Axis}
use Rattle.serna_kinds.specs.declared.expressions.Axis.TheVariants as axis
use Rattle.serna_kinds.specs.declared.expressions.NodeTest.{NodeTest}
use Rattle.xpath_trees.specs.declared.expr.ArithOp.TheVariants as arith
use Rattle.xpath_trees.specs.declared.expr.Expr.{Expr}
use Rattle.xpath_trees.specs.declared.expr.Expr.TheVariants as expr
use Rattle.xpath_trees.specs.declared.expr.PathStart.TheVariants as start
use Rattle.xpath_trees.specs.declared.expr.Step.{Step}
use Rattle.xpath_trees.specs.declared.expr.Function.{Function}
use Rattle.xpath_tokens.specs.declared.symbol.Operator.{Operator}
use Rattle.xpath_tokens.specs.declared.symbol.Operator.TheVariants as operator
use Rattle.xpath_tokens.specs.declared.symbol.Symbol.{Symbol}
use Rattle.xpath_tokens.specs.declared.symbol.Symbol.TheVariants as symbol
use Rattle.xpath_grammar.specs.declared.operand.Level.{Level}
use Rattle.xpath_grammar.specs.declared.operand.Level.TheVariants as level
use Rattle.xpath_grammar.specs.Trees.{step_of, self_node, parent_node, any_descendant, level_of, chain_tree, filtered, signed}

-- tokens, and the tree that they stand for
pub record Part : Type 0 where
  pub tokens : List Symbol
  pub tree : Expr

abbrev pub part : List Symbol → Expr → Part
part tokens tree = record { tokens = tokens; tree = tree }

-- Chains of operators

-- the tokens of the further operands of a chain, each behind its operator
abbrev pub further : List (Operator × Part) → List Symbol
further [] = []
further (x ∷ xs) = symbol.Operator x.0 ∷ (x.1.tokens ++ further xs)

-- a chain of a level: its first operand alone, or with further ones
abbrev pub chain : Level → Part → List (Operator × Part) → Part
chain level first [] = first
chain level first (x ∷ xs) = part (first.tokens ++ further (x ∷ xs))
    (chain_tree level first.tree (map (λ y. (y.0, y.1.tree)) (x ∷ xs)))

-- one operand or more, with an operator of the level between each and the next; operators of one level group to the left
pub record IsChain (level : Level) (IsOperand : Part → Type 0) (whole : Part) : Type 0 where
  pub first : Part
  pub others : List (Operator × Part)
  pub first_is : IsOperand first
  pub others_are : AllByRecursion (λ x. (level_of x.0 ≡ level) × IsOperand x.1) others
  pub whole_is : whole ≡ chain level first others

-- so many minus signs
abbrev pub signs : ℕ → List Symbol
signs zero = []
signs (suc n) = symbol.Operator (operator.Arith arith.Subtract) ∷ signs n

-- [27] UnaryExpr: any number of minus signs, and an expression behind them
pub record IsSigned (IsOperand : Part → Type 0) (whole : Part) : Type 0 where
  pub count : ℕ
  pub plain : Part
  pub plain_is : IsOperand plain
  pub whole_is : whole ≡ part (signs count ++ plain.tokens) (signed count plain.tree)

-- Steps

-- tokens, and the step that they stand for
pub record Stepped : Type 0 where
  pub tokens : List Symbol
  pub step : Step

abbrev pub stepped : List Symbol → Step → Stepped
stepped tokens step = record { tokens = tokens; step = step }

-- [5], [13] AxisSpecifier: `AXIS::`, `@` for `attribute::`, or nothing for `child::`
abbrev pub IsAxis : List Symbol → Axis → Type 0
IsAxis tokens a = (tokens ≡ symbol.AxisName a ∷ symbol.Colons ∷ [])
    ⊎ ((tokens ≡ symbol.At ∷ []) × (a ≡ axis.Attribute))
    ⊎ ((tokens ≡ []) × (a ≡ axis.Child))

-- [7] NodeTest: a name test, or a node type with its parentheses
abbrev pub IsTest : List Symbol → NodeTest → Type 0
IsTest tokens t = (tokens ≡ symbol.Test t ∷ []) ⊎ (tokens ≡ symbol.NodeType t ∷ symbol.Open ∷ symbol.Close ∷ [])

-- [8] predicates, each in its brackets
abbrev pub bracketed : List Part → List Symbol
bracketed [] = []
bracketed (p ∷ ps) = symbol.OpenBracket ∷ (p.tokens ++ symbol.CloseBracket ∷ bracketed ps)

abbrev pub trees : List Part → List Expr
trees = map (λ (p : Part). p.tree)

-- [4] a step that is written out: an axis, a node test and predicates
pub record IsFullStep (IsInner : Part → Type 0) (s : Stepped) : Type 0 where
  pub axis_tokens : List Symbol
  pub test_tokens : List Symbol
  pub on : Axis
  pub test : NodeTest
  pub predicates : List Part
  pub axis_is : IsAxis axis_tokens on
  pub test_is : IsTest test_tokens test
  pub predicates_are : AllByRecursion IsInner predicates
  pub whole_is : s ≡ stepped (axis_tokens ++ (test_tokens ++ bracketed predicates)) (step_of on test (trees predicates))

-- [4], [12] Step
abbrev pub IsStep : (Part → Type 0) → Stepped → Type 0
IsStep IsInner s = IsFullStep IsInner s
    ⊎ (s ≡ stepped (symbol.Dot ∷ []) self_node)
    ⊎ (s ≡ stepped (symbol.DotDot ∷ []) parent_node)

-- Paths

-- a step behind `//`, if the flag says so, or else behind `/`
abbrev pub slash : Bool → Symbol
slash true = symbol.DoubleSlash
slash false = symbol.Slash

abbrev pub behind_slash : List (Bool × Stepped) → List Symbol
behind_slash [] = []
behind_slash (x ∷ xs) = slash x.0 ∷ (x.1.tokens ++ behind_slash xs)

-- [10], [11] `//` is `/descendant-or-self::node()/`
abbrev pub widened : Bool → List Step
widened true = any_descendant ∷ []
widened false = []

abbrev pub steps_behind : List (Bool × Stepped) → List Step
steps_behind [] = []
steps_behind (x ∷ xs) = widened x.0 ++ (x.1.step ∷ steps_behind xs)

abbrev pub AreSteps : (Part → Type 0) → List (Bool × Stepped) → Type 0
AreSteps IsInner = AllByRecursion (λ x. IsStep IsInner x.1)

-- [3] RelativeLocationPath: a step, and further ones behind `/` or `//`
pub record IsRelative (IsInner : Part → Type 0) (whole : Part) : Type 0 where
  pub first : Stepped
  pub others : List (Bool × Stepped)
  pub first_is : IsStep IsInner first
  pub others_are : AreSteps IsInner others
  pub whole_is : whole ≡ part (first.tokens ++ behind_slash others) (expr.Path start.Context (first.step ∷ steps_behind others))

-- [2] AbsoluteLocationPath: `/` alone, or steps behind `/` or `//`
pub record IsAbsolute (IsInner : Part → Type 0) (whole : Part) : Type 0 where
  pub first : Bool × Stepped
  pub others : List (Bool × Stepped)
  pub steps_are : AreSteps IsInner (first ∷ others)
  pub whole_is : whole ≡ part (behind_slash (first ∷ others)) (expr.Path start.Root (steps_behind (first ∷ others)))

abbrev pub root_alone : Part
root_alone = part (symbol.Slash ∷ []) (expr.Path start.Root [])

-- Other operands

-- [16] the arguments of a call, with a comma between each and the next
abbrev pub arguments : List Part → List Symbol
arguments [] = []
arguments (p ∷ []) = p.tokens
arguments (p ∷ q ∷ ps) = p.tokens ++ symbol.Comma ∷ arguments (q ∷ ps)

-- [16] FunctionCall
pub record IsCall (IsInner : Part → Type 0) (whole : Part) : Type 0 where
  pub function : Function
  pub given : List Part
  pub given_are : AllByRecursion IsInner given
  pub whole_is : whole ≡ part (symbol.Callee function ∷ (symbol.Open ∷ (arguments given ++ symbol.Close ∷ []))) (expr.Call function (trees given))

-- an expression in parentheses
pub record IsGroup (IsInner : Part → Type 0) (whole : Part) : Type 0 where
  pub inner : Part
  pub inner_is : IsInner inner
  pub whole_is : whole ≡ part (symbol.Open ∷ (inner.tokens ++ symbol.Close ∷ [])) inner.tree

-- [15] PrimaryExpr
abbrev pub IsPrimary : (Part → Type 0) → Part → Type 0
IsPrimary IsInner whole = ((e : Expr) × (whole ≡ part (symbol.Atom e ∷ []) e)) ⊎ IsGroup IsInner whole ⊎ IsCall IsInner whole

-- [20] FilterExpr
pub record IsFilter (IsInner : Part → Type 0) (whole : Part) : Type 0 where
  pub plain : Part
  pub predicates : List Part
  pub plain_is : IsPrimary IsInner plain
  pub predicates_are : AllByRecursion IsInner predicates
  pub whole_is : whole ≡ part (plain.tokens ++ bracketed predicates) (filtered plain.tree (trees predicates))

-- [19] a path from the nodes of a filter expression
pub record IsPathFrom (IsInner : Part → Type 0) (whole : Part) : Type 0 where
  pub from : Part
  pub first : Bool × Stepped
  pub others : List (Bool × Stepped)
  pub from_is : IsFilter IsInner from
  pub steps_are : AreSteps IsInner (first ∷ others)
  pub whole_is : whole ≡ part (from.tokens ++ behind_slash (first ∷ others)) (expr.Path (start.From from.tree) (steps_behind (first ∷ others)))

-- [1], [19] PathExpr
abbrev pub IsPath : (Part → Type 0) → Part → Type 0
IsPath IsInner whole = IsRelative IsInner whole ⊎ (whole ≡ root_alone) ⊎ IsAbsolute IsInner whole ⊎ IsFilter IsInner whole ⊎ IsPathFrom IsInner whole

-- Expressions

module _ (IsInner : Part → Type 0) where
  -- [18] UnionExpr
  abbrev pub IsUnion : Part → Type 0
  IsUnion = IsChain level.Union (IsPath IsInner)

  -- [27] UnaryExpr
  abbrev pub IsUnary : Part → Type 0
  IsUnary = IsSigned IsUnion

  -- [26] MultiplicativeExpr
  abbrev pub IsMultiplicative : Part → Type 0
  IsMultiplicative = IsChain level.Multiplicative IsUnary

  -- [25] AdditiveExpr
  abbrev pub IsAdditive : Part → Type 0
  IsAdditive = IsChain level.Additive IsMultiplicative

  -- [24] RelationalExpr
  abbrev pub IsRelational : Part → Type 0
  IsRelational = IsChain level.Relational IsAdditive

  -- [23] EqualityExpr
  abbrev pub IsEquality : Part → Type 0
  IsEquality = IsChain level.Equality IsRelational

  -- [22] AndExpr
  abbrev pub IsAnd : Part → Type 0
  IsAnd = IsChain level.And IsEquality

  -- [21] OrExpr
  abbrev pub IsOr : Part → Type 0
  IsOr = IsChain level.Or IsAnd

-- [14] an expression in which brackets stand in one another less deep than this number
unfoldable pub IsExprIn : ℕ → Part → Type 0
IsExprIn zero whole = ⊥
IsExprIn (suc depth) whole = IsOr (IsExprIn depth) whole

-- [14] the tokens are an expression, and this is its tree
abbrev pub IsExpr : List Symbol → Expr → Type 0
IsExpr tokens tree = (depth : ℕ) × IsExprIn depth (part tokens tree)
