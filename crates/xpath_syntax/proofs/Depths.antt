-- How deep a tree is, by its parts.
use Rattle.std.proofs.Common.{◌≡◌, ℕ, List, map, sym, ap, ◌∙◌}
use Rattle.serna_kinds.specs.declared.expressions.Axis.{Axis}
use Rattle.serna_kinds.specs.declared.expressions.CompareOp.{CompareOp}
use Rattle.serna_kinds.specs.declared.expressions.NodeTest.{NodeTest}
use Rattle.xpath_trees.specs.declared.expr.ArithOp.{ArithOp}
use Rattle.xpath_trees.specs.declared.expr.Function.{Function}
use Rattle.xpath_trees.specs.declared.expr.Signs.{Signs}
use Rattle.xpath_trees.specs.declared.expr.Expr.{Expr}
use Rattle.xpath_trees.specs.declared.expr.Expr.TheVariants as expr
use Rattle.xpath_trees.specs.declared.expr.Expr.TheVariants.{rolls-Or, rolls-And, rolls-Compare, rolls-Arith, rolls-Negate, rolls-Union, rolls-Path, rolls-Filter, rolls-Call}
use Rattle.xpath_trees.specs.declared.expr.Expr.TheOpen as opened
use Rattle.xpath_trees.specs.declared.expr.Expr.TheFolds.{fold-roll-Expr, fold-roll-PathStart, fold-roll-Step}
use Rattle.xpath_trees.specs.declared.expr.PathStart.{PathStart}
use Rattle.xpath_trees.specs.declared.expr.PathStart.TheVariants as start
use Rattle.xpath_trees.specs.declared.expr.PathStart.TheVariants.{rolls-Context, rolls-Root, rolls-From}
use Rattle.xpath_trees.specs.declared.expr.Step.{Step}
use Rattle.xpath_grammar.specs.Trees.{step_of}
use Rattle.xpath_syntax.specs.Depth.{deepest, depth_in, start_depth, step_depth, depth_of, start_depth_of, step_depth_of}

pub depth-Or : (es : List Expr) → depth_of (expr.Or es) ≡ depth_in (opened.Or (map depth_of es))
unfolding depth_of
depth-Or es = ap depth_of (sym (rolls-Or es)) ∙ fold-roll-Expr ℕ ℕ ℕ depth_in start_depth step_depth (opened.Or es)

pub depth-And : (es : List Expr) → depth_of (expr.And es) ≡ depth_in (opened.And (map depth_of es))
unfolding depth_of
depth-And es = ap depth_of (sym (rolls-And es)) ∙ fold-roll-Expr ℕ ℕ ℕ depth_in start_depth step_depth (opened.And es)

pub depth-Compare : (e : Expr) (others : List (CompareOp × Expr)) → depth_of (expr.Compare e others) ≡ depth_in (opened.Compare (depth_of e) (map (λ (x : CompareOp × Expr). (x.0, depth_of x.1)) others))
unfolding depth_of
depth-Compare e others = ap depth_of (sym (rolls-Compare e others)) ∙ fold-roll-Expr ℕ ℕ ℕ depth_in start_depth step_depth (opened.Compare e others)

pub depth-Arith : (e : Expr) (others : List (ArithOp × Expr)) → depth_of (expr.Arith e others) ≡ depth_in (opened.Arith (depth_of e) (map (λ (x : ArithOp × Expr). (x.0, depth_of x.1)) others))
unfolding depth_of
depth-Arith e others = ap depth_of (sym (rolls-Arith e others)) ∙ fold-roll-Expr ℕ ℕ ℕ depth_in start_depth step_depth (opened.Arith e others)

pub depth-Negate : (signs : Signs) (e : Expr) → depth_of (expr.Negate signs e) ≡ depth_in (opened.Negate signs (depth_of e))
unfolding depth_of
depth-Negate signs e = ap depth_of (sym (rolls-Negate signs e)) ∙ fold-roll-Expr ℕ ℕ ℕ depth_in start_depth step_depth (opened.Negate signs e)

pub depth-Union : (es : List Expr) → depth_of (expr.Union es) ≡ depth_in (opened.Union (map depth_of es))
unfolding depth_of
depth-Union es = ap depth_of (sym (rolls-Union es)) ∙ fold-roll-Expr ℕ ℕ ℕ depth_in start_depth step_depth (opened.Union es)

pub depth-Path : (from : PathStart) (steps : List Step) → depth_of (expr.Path from steps) ≡ depth_in (opened.Path (start_depth_of from) (map step_depth_of steps))
unfolding depth_of start_depth_of step_depth_of
depth-Path from steps = ap depth_of (sym (rolls-Path from steps)) ∙ fold-roll-Expr ℕ ℕ ℕ depth_in start_depth step_depth (opened.Path from steps)

pub depth-Filter : (e : Expr) (predicates : List Expr) → depth_of (expr.Filter e predicates) ≡ depth_in (opened.Filter (depth_of e) (map depth_of predicates))
unfolding depth_of
depth-Filter e predicates = ap depth_of (sym (rolls-Filter e predicates)) ∙ fold-roll-Expr ℕ ℕ ℕ depth_in start_depth step_depth (opened.Filter e predicates)

pub depth-Call : (f : Function) (es : List Expr) → depth_of (expr.Call f es) ≡ depth_in (opened.Call f (map depth_of es))
unfolding depth_of
depth-Call f es = ap depth_of (sym (rolls-Call f es)) ∙ fold-roll-Expr ℕ ℕ ℕ depth_in start_depth step_depth (opened.Call f es)

pub depth-Context : start_depth_of start.Context ≡ 0
unfolding start_depth_of
depth-Context = ap start_depth_of (sym rolls-Context) ∙ fold-roll-PathStart ℕ ℕ ℕ depth_in start_depth step_depth opened.Context

pub depth-Root : start_depth_of start.Root ≡ 0
unfolding start_depth_of
depth-Root = ap start_depth_of (sym rolls-Root) ∙ fold-roll-PathStart ℕ ℕ ℕ depth_in start_depth step_depth opened.Root

pub depth-From : (e : Expr) → start_depth_of (start.From e) ≡ depth_of e
unfolding depth_of start_depth_of
depth-From e = ap start_depth_of (sym (rolls-From e)) ∙ fold-roll-PathStart ℕ ℕ ℕ depth_in start_depth step_depth (opened.From e)

pub depth-step : (on : Axis) (test : NodeTest) (es : List Expr) → step_depth_of (step_of on test es) ≡ deepest (map depth_of es)
unfolding depth_of step_depth_of
depth-step on test es = fold-roll-Step ℕ ℕ ℕ depth_in start_depth step_depth (record { axis = on; test = test; predicates = es })
