-- The variables that an expression names (XPath 1.0, section 3.1), and top-level variables that can be valued in their order.
use Rattle.std.specs.Prelude.{◌≡◌, true, false, List, [], ◌∷◌, ◌++◌, map}
use Rattle.std.specs.List.{AllByRecursion, flat_map, list_any}
use Rattle.serna_kinds.specs.Names.{NameParts, are_same}
use Rattle.serna_kinds.specs.declared.cells.NameId.{NameId}
use Rattle.xpath_trees.specs.declared.expr.Expr.{Expr}
use Rattle.xpath_trees.specs.declared.expr.Expr.TheOpen.{Expr-F, PathStart-F, Step-F}
use Rattle.xpath_trees.specs.declared.expr.Expr.TheFolds.{fold-Expr}
use Rattle.xpath_trees.specs.declared.globals.Global.{Global}
use Rattle.xpath_trees.specs.declared.globals.GlobalBody.{GlobalBody}
use Rattle.xpath_trees.specs.declared.globals.GlobalBody.TheVariants as body

abbrev pub joined : List (List NameId) → List NameId
joined = flat_map (λ (names : List NameId). names)

abbrev pub of_operands : {O : Type 0} → List (O × List NameId) → List NameId
of_operands = flat_map (λ other. other.1)

abbrev pub variables_in : Expr-F (List NameId) (List NameId) (List NameId) → List NameId
variables_in (Expr-F.Or operands) = joined operands
variables_in (Expr-F.And operands) = joined operands
variables_in (Expr-F.Compare first others) = first ++ of_operands others
variables_in (Expr-F.Arith first others) = first ++ of_operands others
variables_in (Expr-F.Negate signs operand) = operand
variables_in (Expr-F.Union operands) = joined operands
variables_in (Expr-F.Path start steps) = start ++ joined steps
variables_in (Expr-F.Filter filtered predicates) = filtered ++ joined predicates
variables_in (Expr-F.Text text) = []
variables_in (Expr-F.Number n) = []
variables_in (Expr-F.Variable name) = name ∷ []
variables_in (Expr-F.Call function arguments) = joined arguments

abbrev pub start_variables : PathStart-F (List NameId) (List NameId) (List NameId) → List NameId
start_variables PathStart-F.Context = []
start_variables PathStart-F.Root = []
start_variables (PathStart-F.From nodes) = nodes

abbrev pub step_variables : Step-F (List NameId) (List NameId) (List NameId) → List NameId
step_variables step = joined step.predicates

-- the names of the variables of an expression, in the order in which they stand, each as often as it stands there
unfoldable pub variables_of : Expr → List NameId
variables_of = fold-Expr (List NameId) (List NameId) (List NameId) variables_in start_variables step_variables

abbrev pub body_variables : GlobalBody → List NameId
body_variables (body.Select e) = variables_of e
body_variables (body.Text text) = []

-- Behind variables of these names: each has another name than those before it, and its body names only those (XSLT 1.0,
-- section 11.4: no definition may be circular). Names are compared by URI and local name.
abbrev pub AreGlobalsBehind : List NameParts → List NameId → List Global → Type 0
AreGlobalsBehind names before [] = Unit {0}
AreGlobalsBehind names before (g ∷ gs) =
    (list_any (are_same names g.name) before ≡ false) × AllByRecursion (λ v. list_any (are_same names v) before ≡ true) (body_variables g.body) × AreGlobalsBehind names (before ++ g.name ∷ []) gs

abbrev pub AreGlobals : List NameParts → List Global → Type 0
AreGlobals names = AreGlobalsBehind names []
