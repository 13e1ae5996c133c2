-- The form of each kind of expression, of where a path begins and of a step, by its parts.
use Rattle.std.proofs.Common.{◌≡◌, ℕ, Bool, List, map, sym, ap, ◌∙◌}
use Rattle.serna_kinds.specs.declared.cells.NameId.{NameId}
use Rattle.serna_kinds.specs.declared.expressions.Axis.{Axis}
use Rattle.serna_kinds.specs.declared.expressions.CompareOp.{CompareOp}
use Rattle.serna_kinds.specs.declared.expressions.NodeTest.{NodeTest}
use Rattle.xpath_trees.specs.declared.expr.ArithOp.{ArithOp}
use Rattle.xpath_trees.specs.declared.expr.Function.{Function}
use Rattle.xpath_trees.specs.declared.expr.Signs.{Signs}
use Rattle.xpath_trees.specs.declared.expr.Expr.{Expr}
use Rattle.xpath_trees.specs.declared.expr.Expr.TheVariants as expr
use Rattle.xpath_trees.specs.declared.expr.Expr.TheVariants.{rolls-Or, rolls-And, rolls-Compare, rolls-Arith, rolls-Negate, rolls-Union, rolls-Path, rolls-Filter, rolls-Text, rolls-Number, rolls-Variable, rolls-Call}
use Rattle.xpath_trees.specs.declared.expr.Expr.TheOpen as opened
use Rattle.xpath_trees.specs.declared.expr.Expr.TheFolds.{fold-roll-Expr, fold-roll-PathStart, fold-roll-Step}
use Rattle.xpath_trees.specs.declared.expr.PathStart.{PathStart}
use Rattle.xpath_trees.specs.declared.expr.PathStart.TheVariants as start
use Rattle.xpath_trees.specs.declared.expr.PathStart.TheVariants.{rolls-Context, rolls-Root, rolls-From}
use Rattle.xpath_trees.specs.declared.expr.Step.{Step, roll-Step}
use Rattle.xpath_trees.specs.WellFormed.{form, start_form, step_form, is_well_formed, is_start_well_formed, is_step_well_formed}

pub formed-Or : (es : List Expr) → is_well_formed (expr.Or es) ≡ form (opened.Or (map is_well_formed es))
unfolding is_well_formed
formed-Or es = ap is_well_formed (sym (rolls-Or es)) ∙ fold-roll-Expr Bool (List Bool → Bool) Bool form start_form step_form (opened.Or es)

pub formed-And : (es : List Expr) → is_well_formed (expr.And es) ≡ form (opened.And (map is_well_formed es))
unfolding is_well_formed
formed-And es = ap is_well_formed (sym (rolls-And es)) ∙ fold-roll-Expr Bool (List Bool → Bool) Bool form start_form step_form (opened.And es)

pub formed-Compare : (e : Expr) (others : List (CompareOp × Expr)) → is_well_formed (expr.Compare e others) ≡ form (opened.Compare (is_well_formed e) (map (λ (x : CompareOp × Expr). (x.0, is_well_formed x.1)) others))
unfolding is_well_formed
formed-Compare e others = ap is_well_formed (sym (rolls-Compare e others)) ∙ fold-roll-Expr Bool (List Bool → Bool) Bool form start_form step_form (opened.Compare e others)

pub formed-Arith : (e : Expr) (others : List (ArithOp × Expr)) → is_well_formed (expr.Arith e others) ≡ form (opened.Arith (is_well_formed e) (map (λ (x : ArithOp × Expr). (x.0, is_well_formed x.1)) others))
unfolding is_well_formed
formed-Arith e others = ap is_well_formed (sym (rolls-Arith e others)) ∙ fold-roll-Expr Bool (List Bool → Bool) Bool form start_form step_form (opened.Arith e others)

pub formed-Negate : (signs : Signs) (e : Expr) → is_well_formed (expr.Negate signs e) ≡ form (opened.Negate signs (is_well_formed e))
unfolding is_well_formed
formed-Negate signs e = ap is_well_formed (sym (rolls-Negate signs e)) ∙ fold-roll-Expr Bool (List Bool → Bool) Bool form start_form step_form (opened.Negate signs e)

pub formed-Union : (es : List Expr) → is_well_formed (expr.Union es) ≡ form (opened.Union (map is_well_formed es))
unfolding is_well_formed
formed-Union es = ap is_well_formed (sym (rolls-Union es)) ∙ fold-roll-Expr Bool (List Bool → Bool) Bool form start_form step_form (opened.Union es)

pub formed-Path : (from : PathStart) (steps : List Step) → is_well_formed (expr.Path from steps) ≡ form (opened.Path (is_start_well_formed from) (map is_step_well_formed steps))
unfolding is_well_formed is_start_well_formed is_step_well_formed
formed-Path from steps = ap is_well_formed (sym (rolls-Path from steps)) ∙ fold-roll-Expr Bool (List Bool → Bool) Bool form start_form step_form (opened.Path from steps)

pub formed-Filter : (e : Expr) (predicates : List Expr) → is_well_formed (expr.Filter e predicates) ≡ form (opened.Filter (is_well_formed e) (map is_well_formed predicates))
unfolding is_well_formed
formed-Filter e predicates = ap is_well_formed (sym (rolls-Filter e predicates)) ∙ fold-roll-Expr Bool (List Bool → Bool) Bool form start_form step_form (opened.Filter e predicates)

pub formed-Text : (text : List ℕ) → is_well_formed (expr.Text text) ≡ form (opened.Text text)
unfolding is_well_formed
formed-Text text = ap is_well_formed (sym (rolls-Text text)) ∙ fold-roll-Expr Bool (List Bool → Bool) Bool form start_form step_form (opened.Text text)

pub formed-Number : (n : ℕ) → is_well_formed (expr.Number n) ≡ form (opened.Number n)
unfolding is_well_formed
formed-Number n = ap is_well_formed (sym (rolls-Number n)) ∙ fold-roll-Expr Bool (List Bool → Bool) Bool form start_form step_form (opened.Number n)

pub formed-Variable : (id : NameId) → is_well_formed (expr.Variable id) ≡ form (opened.Variable id)
unfolding is_well_formed
formed-Variable id = ap is_well_formed (sym (rolls-Variable id)) ∙ fold-roll-Expr Bool (List Bool → Bool) Bool form start_form step_form (opened.Variable id)

pub formed-Call : (f : Function) (es : List Expr) → is_well_formed (expr.Call f es) ≡ form (opened.Call f (map is_well_formed es))
unfolding is_well_formed
formed-Call f es = ap is_well_formed (sym (rolls-Call f es)) ∙ fold-roll-Expr Bool (List Bool → Bool) Bool form start_form step_form (opened.Call f es)

pub formed-Context : is_start_well_formed start.Context ≡ start_form opened.Context
unfolding is_start_well_formed
formed-Context = ap is_start_well_formed (sym rolls-Context) ∙ fold-roll-PathStart Bool (List Bool → Bool) Bool form start_form step_form opened.Context

pub formed-Root : is_start_well_formed start.Root ≡ start_form opened.Root
unfolding is_start_well_formed
formed-Root = ap is_start_well_formed (sym rolls-Root) ∙ fold-roll-PathStart Bool (List Bool → Bool) Bool form start_form step_form opened.Root

pub formed-From : (e : Expr) → is_start_well_formed (start.From e) ≡ start_form (opened.From (is_well_formed e))
unfolding is_well_formed is_start_well_formed
formed-From e = ap is_start_well_formed (sym (rolls-From e)) ∙ fold-roll-PathStart Bool (List Bool → Bool) Bool form start_form step_form (opened.From e)

pub formed-step : (on : Axis) (test : NodeTest) (es : List Expr) → is_step_well_formed (roll-Step (record { axis = on; test = test; predicates = es })) ≡ step_form (record { axis = on; test = test; predicates = map is_well_formed es })
unfolding is_well_formed is_step_well_formed
formed-step on test es = fold-roll-Step Bool (List Bool → Bool) Bool form start_form step_form (record { axis = on; test = test; predicates = es })
