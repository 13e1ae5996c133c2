-- The grammar of patterns (XSLT 1.0, section 5.2), without `id( )` and `key( )`. The numbers are those of that section's
-- productions; what comes from expressions is in Grammar.antt. A production says which tokens stand for which tree.
use Rattle.std.specs.Prelude.{◌≡◌, ◌⊎◌, Bool, true, false, List, [], ◌∷◌, ◌++◌, map}
use Rattle.std.specs.List.{AllByRecursion}
use Rattle.serna_kinds.specs.declared.expressions.Axis.{Axis}
use Rattle.serna_kinds.specs.declared.expressions.Axis.TheVariants as axis
use Rattle.xpath_trees.specs.declared.expr.Expr.{Expr}
use Rattle.xpath_trees.specs.declared.expr.Expr.TheVariants as expr
use Rattle.xpath_trees.specs.declared.expr.PathStart.{PathStart}
use Rattle.xpath_trees.specs.declared.expr.PathStart.TheVariants as start
use Rattle.xpath_trees.specs.declared.expr.Step.{Step}
use Rattle.xpath_trees.specs.declared.pattern.Alternative.{Alternative}
use Rattle.xpath_trees.specs.declared.pattern.Pattern.{Pattern}
use Rattle.xpath_tokens.specs.declared.symbol.Operator.TheVariants as operator
use Rattle.xpath_tokens.specs.declared.symbol.Symbol.{Symbol}
use Rattle.xpath_tokens.specs.declared.symbol.Symbol.TheVariants as symbol
use Rattle.xpath_grammar.specs.Grammar.{Part, Stepped, IsFullStep, slash, behind_slash, widened, steps_behind, IsExpr}

-- Steps

-- [6] ChildOrAttributeAxisSpecifier: of the axes, these two
abbrev pub IsChildOrAttribute : Axis → Type 0
IsChildOrAttribute on = (on ≡ axis.Child) ⊎ (on ≡ axis.Attribute)

-- any expression may be a predicate
abbrev pub IsPredicate : Part → Type 0
IsPredicate p = IsExpr p.tokens p.tree

-- [5] StepPattern: an axis, a node test and predicates
pub record IsStepPattern (s : Stepped) : Type 0 where
  pub written : IsFullStep IsPredicate s
  pub axis_is : IsChildOrAttribute written.on

-- [4] RelativePathPattern: a step, and further ones behind `/` or `//`
pub record IsRelativePattern (tokens : List Symbol) (steps : List Step) : Type 0 where
  pub first : Stepped
  pub others : List (Bool × Stepped)
  pub first_is : IsStepPattern first
  pub others_are : AllByRecursion (λ x. IsStepPattern x.1) others
  pub tokens_are : tokens ≡ first.tokens ++ behind_slash others
  pub steps_are : steps ≡ first.step ∷ steps_behind others

-- Alternatives

-- tokens, and the alternative that they stand for
pub record PathPart : Type 0 where
  pub tokens : List Symbol
  pub tree : Alternative

abbrev pub path_part : List Symbol → Bool → List Step → PathPart
path_part tokens from_root steps = record { tokens = tokens; tree = record { from_root = from_root; steps = steps } }

-- [2] from any node: a RelativePathPattern alone
pub record IsFromAnywhere (p : PathPart) : Type 0 where
  pub tokens : List Symbol
  pub steps : List Step
  pub steps_are : IsRelativePattern tokens steps
  pub whole_is : p ≡ path_part tokens false steps

-- [2] from the root: a RelativePathPattern behind `//`, if the flag says so, or else behind `/`
pub record IsFromRoot (p : PathPart) : Type 0 where
  pub double : Bool
  pub tokens : List Symbol
  pub steps : List Step
  pub steps_are : IsRelativePattern tokens steps
  pub whole_is : p ≡ path_part (slash double ∷ tokens) true (widened double ++ steps)

-- [2] LocationPathPattern: `/` alone, or one of those
abbrev pub IsPathPattern : PathPart → Type 0
IsPathPattern p = (p ≡ path_part (symbol.Slash ∷ []) true []) ⊎ IsFromAnywhere p ⊎ IsFromRoot p

-- Patterns

abbrev pub bar : Symbol
bar = symbol.Operator operator.Union

-- the tokens of the further alternatives, each behind its `|`
abbrev pub behind_bar : List PathPart → List Symbol
behind_bar [] = []
behind_bar (p ∷ ps) = bar ∷ (p.tokens ++ behind_bar ps)

-- [1] Pattern: alternatives, one or more, with `|` between each and the next
pub record IsPattern (tokens : List Symbol) (pattern : Pattern) : Type 0 where
  pub first : PathPart
  pub others : List PathPart
  pub first_is : IsPathPattern first
  pub others_are : AllByRecursion IsPathPattern others
  pub tokens_are : tokens ≡ first.tokens ++ behind_bar others
  pub pattern_is : pattern ≡ record { alternatives = first.tree ∷ map (λ p. p.tree) others }

-- Patterns as expressions

abbrev pub start_of : Bool → PathStart
start_of true = start.Root
start_of false = start.Context

-- an alternative as an expression: the path with its start and steps
abbrev pub path_of : Alternative → Expr
path_of a = expr.Path (start_of a.from_root) a.steps

-- alternatives as an expression: one as its path, and several as the union of their paths
abbrev pub union_of : List Alternative → Expr
union_of (a ∷ []) = path_of a
union_of several = expr.Union (map path_of several)

abbrev pub expression_of : Pattern → Expr
expression_of pattern = union_of pattern.alternatives
