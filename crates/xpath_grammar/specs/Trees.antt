-- The trees of expressions, from their parts.
use Rattle.std.specs.Prelude.{ℕ, zero, suc, List, [], ◌∷◌, map}
use Rattle.std.specs.List.{flat_map}
use Rattle.serna_kinds.specs.declared.expressions.Axis.{Axis}
use Rattle.serna_kinds.specs.declared.expressions.Axis.TheVariants as axis
use Rattle.serna_kinds.specs.declared.expressions.CompareOp.{CompareOp}
use Rattle.serna_kinds.specs.declared.expressions.CompareOp.TheVariants as compare
use Rattle.serna_kinds.specs.declared.expressions.NodeTest.{NodeTest}
use Rattle.serna_kinds.specs.declared.expressions.NodeTest.TheVariants as test
use Rattle.xpath_trees.specs.declared.expr.ArithOp.{ArithOp}
use Rattle.xpath_trees.specs.declared.expr.ArithOp.TheVariants as arith
use Rattle.xpath_trees.specs.declared.expr.Expr.{Expr}
use Rattle.xpath_trees.specs.declared.expr.Expr.TheVariants as expr
use Rattle.xpath_trees.specs.declared.expr.Signs.{Signs}
use Rattle.xpath_trees.specs.declared.expr.Signs.TheVariants as sign
use Rattle.xpath_trees.specs.declared.expr.Step.{Step, roll-Step}
use Rattle.xpath_tokens.specs.declared.symbol.Operator.{Operator}
use Rattle.xpath_tokens.specs.declared.symbol.Operator.TheVariants as operator
use Rattle.xpath_grammar.specs.declared.operand.Level.{Level}
use Rattle.xpath_grammar.specs.declared.operand.Level.TheVariants as level

-- Steps

abbrev pub step_of : Axis → NodeTest → List Expr → Step
step_of on test predicates = roll-Step (record { axis = on; test = test; predicates = predicates })

-- [12] `.` is `self::node()`
abbrev pub self_node : Step
self_node = step_of axis.Itself test.AnyNode []

-- [12] `..` is `parent::node()`
abbrev pub parent_node : Step
parent_node = step_of axis.Parent test.AnyNode []

-- [10], [11] `//` is `/descendant-or-self::node()/`
abbrev pub any_descendant : Step
any_descendant = step_of axis.DescendantOrSelf test.AnyNode []

-- Chains of operators

-- the level of a comparison ([23], [24])
abbrev pub compare_level : CompareOp → Level
compare_level compare.Equal = level.Equality
compare_level compare.NotEqual = level.Equality
compare_level compare.Less = level.Relational
compare_level compare.LessOrEqual = level.Relational
compare_level compare.Greater = level.Relational
compare_level compare.GreaterOrEqual = level.Relational

-- the level of an operator on numbers ([25], [26])
abbrev pub arith_level : ArithOp → Level
arith_level arith.Add = level.Additive
arith_level arith.Subtract = level.Additive
arith_level arith.Multiply = level.Multiplicative
arith_level arith.Remainder = level.Multiplicative

-- the level of an operator ([18], [21] to [26])
abbrev pub level_of : Operator → Level
level_of operator.Or = level.Or
level_of operator.And = level.And
level_of (operator.Compare op) = compare_level op
level_of (operator.Arith op) = arith_level op
level_of operator.Union = level.Union

-- how tightly the operators of a level bind; the minus sign ([27]) binds as 7
abbrev pub rank : Level → ℕ
rank level.Or = 1
rank level.And = 2
rank level.Equality = 3
rank level.Relational = 4
rank level.Additive = 5
rank level.Multiplicative = 6
rank level.Union = 8

-- an operand behind an operator that is a comparison
abbrev pub compared : Operator → Expr → List (CompareOp × Expr)
compared (operator.Compare op) e = (op, e) ∷ []
compared _ e = []

-- an operand behind an operator on numbers
abbrev pub computed : Operator → Expr → List (ArithOp × Expr)
computed (operator.Arith op) e = (op, e) ∷ []
computed _ e = []

abbrev pub operands : Expr → List (Operator × Expr) → List Expr
operands first others = first ∷ map (λ other. other.1) others

-- the tree of a chain of a level: its first operand and the others, each with the operator before it
abbrev pub chain_tree : Level → Expr → List (Operator × Expr) → Expr
chain_tree level.Or first others = expr.Or (operands first others)
chain_tree level.And first others = expr.And (operands first others)
chain_tree level.Equality first others = expr.Compare first (flat_map (λ other. compared other.0 other.1) others)
chain_tree level.Relational first others = expr.Compare first (flat_map (λ other. compared other.0 other.1) others)
chain_tree level.Additive first others = expr.Arith first (flat_map (λ other. computed other.0 other.1) others)
chain_tree level.Multiplicative first others = expr.Arith first (flat_map (λ other. computed other.0 other.1) others)
chain_tree level.Union first others = expr.Union (operands first others)

-- Predicates and signs

-- [20] an expression with its predicates
abbrev pub filtered : Expr → List Expr → Expr
filtered e [] = e
filtered e (p ∷ ps) = expr.Filter e (p ∷ ps)

-- one minus sign more
abbrev pub once_more : Signs → Signs
once_more sign.Once = sign.Twice
once_more sign.Twice = sign.Once

-- what so many minus signs and one more are as
abbrev pub signs_past : ℕ → Signs
signs_past zero = sign.Once
signs_past (suc n) = once_more (signs_past n)

-- [27] an expression behind so many minus signs
abbrev pub signed : ℕ → Expr → Expr
signed zero e = e
signed (suc n) e = expr.Negate (signs_past n) e
