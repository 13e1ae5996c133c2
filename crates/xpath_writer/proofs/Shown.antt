-- How each kind of expression, start and step is written, by its parts.
use Rattle.std.proofs.Common.{◌≡◌, ℕ, Bool, List, [], ◌∷◌, ◌++◌, map, Result, Ok, Err, OnOk, sym, ap, ◌∙◌, subst, append_assoc, append-nil}
use Rattle.std.proofs.lemmas.Grind.{flat_map-append}
use Rattle.serna_kinds.specs.Names.{NameParts, Space}
use Rattle.serna_kinds.specs.declared.cells.NameId.{NameId}
use Rattle.serna_kinds.specs.declared.expressions.Axis.{Axis}
use Rattle.serna_kinds.specs.declared.expressions.NodeTest.{NodeTest}
use Rattle.xpath_grammar.specs.Trees.{step_of}
use Rattle.serna_kinds.specs.declared.expressions.CompareOp.{CompareOp}
use Rattle.xpath_trees.specs.declared.expr.ArithOp.{ArithOp}
use Rattle.xpath_trees.specs.declared.expr.Function.{Function}
use Rattle.xpath_trees.specs.declared.expr.Signs.{Signs}
use Rattle.xpath_trees.specs.declared.expr.Expr.{Expr}
use Rattle.xpath_trees.specs.declared.expr.Expr.TheVariants as expr
use Rattle.xpath_trees.specs.declared.expr.Expr.TheVariants.{rolls-Or, rolls-And, rolls-Compare, rolls-Arith, rolls-Negate, rolls-Union, rolls-Path, rolls-Filter, rolls-Text, rolls-Number, rolls-Variable, rolls-Call}
use Rattle.xpath_trees.specs.declared.expr.Expr.TheOpen as opened
use Rattle.xpath_trees.specs.declared.expr.Expr.TheOpen.{Step-F}
use Rattle.xpath_trees.specs.declared.expr.Expr.TheFolds.{fold-roll-Expr, fold-roll-PathStart, fold_out-Step, fold-roll-Step}
use Rattle.xpath_trees.specs.declared.expr.PathStart.{PathStart}
use Rattle.xpath_trees.specs.declared.expr.PathStart.TheVariants as start
use Rattle.xpath_trees.specs.declared.expr.PathStart.TheVariants.{rolls-Context, rolls-Root, rolls-From}
use Rattle.xpath_trees.specs.declared.expr.Step.{Step, out-Step}
use Rattle.xpath_writer.specs.Writing.{Word, Written, WrittenStep, spelled, form, path_form, step_form, shown, shown_start, shown_step}

module _ (spaces : List Space) (names : List NameParts) where
  pub shown-Or : (es : List Expr) → shown spaces names (expr.Or es) ≡ form spaces names (opened.Or (map (shown spaces names) es))
  unfolding shown
  shown-Or es = ap (shown spaces names) (sym (rolls-Or es)) ∙ fold-roll-Expr Written (Bool → List WrittenStep → List Word) WrittenStep (form spaces names) (path_form spaces names) (step_form spaces names) (opened.Or es)

  pub shown-And : (es : List Expr) → shown spaces names (expr.And es) ≡ form spaces names (opened.And (map (shown spaces names) es))
  unfolding shown
  shown-And es = ap (shown spaces names) (sym (rolls-And es)) ∙ fold-roll-Expr Written (Bool → List WrittenStep → List Word) WrittenStep (form spaces names) (path_form spaces names) (step_form spaces names) (opened.And es)

  pub shown-Compare : (e : Expr) (others : List (CompareOp × Expr)) → shown spaces names (expr.Compare e others)
      ≡ form spaces names (opened.Compare (shown spaces names e) (map (λ (x : CompareOp × Expr). (x.0, shown spaces names x.1)) others))
  unfolding shown
  shown-Compare e others = ap (shown spaces names) (sym (rolls-Compare e others)) ∙ fold-roll-Expr Written (Bool → List WrittenStep → List Word) WrittenStep (form spaces names) (path_form spaces names) (step_form spaces names) (opened.Compare e others)

  pub shown-Arith : (e : Expr) (others : List (ArithOp × Expr)) → shown spaces names (expr.Arith e others)
      ≡ form spaces names (opened.Arith (shown spaces names e) (map (λ (x : ArithOp × Expr). (x.0, shown spaces names x.1)) others))
  unfolding shown
  shown-Arith e others = ap (shown spaces names) (sym (rolls-Arith e others)) ∙ fold-roll-Expr Written (Bool → List WrittenStep → List Word) WrittenStep (form spaces names) (path_form spaces names) (step_form spaces names) (opened.Arith e others)

  pub shown-Negate : (signs : Signs) (e : Expr) → shown spaces names (expr.Negate signs e) ≡ form spaces names (opened.Negate signs (shown spaces names e))
  unfolding shown
  shown-Negate signs e = ap (shown spaces names) (sym (rolls-Negate signs e)) ∙ fold-roll-Expr Written (Bool → List WrittenStep → List Word) WrittenStep (form spaces names) (path_form spaces names) (step_form spaces names) (opened.Negate signs e)

  pub shown-Union : (es : List Expr) → shown spaces names (expr.Union es) ≡ form spaces names (opened.Union (map (shown spaces names) es))
  unfolding shown
  shown-Union es = ap (shown spaces names) (sym (rolls-Union es)) ∙ fold-roll-Expr Written (Bool → List WrittenStep → List Word) WrittenStep (form spaces names) (path_form spaces names) (step_form spaces names) (opened.Union es)

  pub shown-Path : (from : PathStart) (steps : List Step) → shown spaces names (expr.Path from steps) ≡ form spaces names (opened.Path (shown_start spaces names from) (map (shown_step spaces names) steps))
  unfolding shown shown_start shown_step
  shown-Path from steps = ap (shown spaces names) (sym (rolls-Path from steps)) ∙ fold-roll-Expr Written (Bool → List WrittenStep → List Word) WrittenStep (form spaces names) (path_form spaces names) (step_form spaces names) (opened.Path from steps)

  pub shown-Filter : (e : Expr) (predicates : List Expr) → shown spaces names (expr.Filter e predicates) ≡ form spaces names (opened.Filter (shown spaces names e) (map (shown spaces names) predicates))
  unfolding shown
  shown-Filter e predicates = ap (shown spaces names) (sym (rolls-Filter e predicates)) ∙ fold-roll-Expr Written (Bool → List WrittenStep → List Word) WrittenStep (form spaces names) (path_form spaces names) (step_form spaces names) (opened.Filter e predicates)

  pub shown-Text : (text : List ℕ) → shown spaces names (expr.Text text) ≡ form spaces names (opened.Text text)
  unfolding shown
  shown-Text text = ap (shown spaces names) (sym (rolls-Text text)) ∙ fold-roll-Expr Written (Bool → List WrittenStep → List Word) WrittenStep (form spaces names) (path_form spaces names) (step_form spaces names) (opened.Text text)

  pub shown-Number : (n : ℕ) → shown spaces names (expr.Number n) ≡ form spaces names (opened.Number n)
  unfolding shown
  shown-Number n = ap (shown spaces names) (sym (rolls-Number n)) ∙ fold-roll-Expr Written (Bool → List WrittenStep → List Word) WrittenStep (form spaces names) (path_form spaces names) (step_form spaces names) (opened.Number n)

  pub shown-Variable : (id : NameId) → shown spaces names (expr.Variable id) ≡ form spaces names (opened.Variable id)
  unfolding shown
  shown-Variable id = ap (shown spaces names) (sym (rolls-Variable id)) ∙ fold-roll-Expr Written (Bool → List WrittenStep → List Word) WrittenStep (form spaces names) (path_form spaces names) (step_form spaces names) (opened.Variable id)

  pub shown-Call : (f : Function) (es : List Expr) → shown spaces names (expr.Call f es) ≡ form spaces names (opened.Call f (map (shown spaces names) es))
  unfolding shown
  shown-Call f es = ap (shown spaces names) (sym (rolls-Call f es)) ∙ fold-roll-Expr Written (Bool → List WrittenStep → List Word) WrittenStep (form spaces names) (path_form spaces names) (step_form spaces names) (opened.Call f es)

  pub shown-Context : shown_start spaces names start.Context ≡ path_form spaces names opened.Context
  unfolding shown_start
  shown-Context = ap (shown_start spaces names) (sym rolls-Context) ∙ fold-roll-PathStart Written (Bool → List WrittenStep → List Word) WrittenStep (form spaces names) (path_form spaces names) (step_form spaces names) opened.Context

  pub shown-Root : shown_start spaces names start.Root ≡ path_form spaces names opened.Root
  unfolding shown_start
  shown-Root = ap (shown_start spaces names) (sym rolls-Root) ∙ fold-roll-PathStart Written (Bool → List WrittenStep → List Word) WrittenStep (form spaces names) (path_form spaces names) (step_form spaces names) opened.Root

  pub shown-From : (e : Expr) → shown_start spaces names (start.From e) ≡ path_form spaces names (opened.From (shown spaces names e))
  unfolding shown shown_start
  shown-From e = ap (shown_start spaces names) (sym (rolls-From e)) ∙ fold-roll-PathStart Written (Bool → List WrittenStep → List Word) WrittenStep (form spaces names) (path_form spaces names) (step_form spaces names) (opened.From e)

  -- a step with its predicates as they are written
  abbrev pub open_step : Step → Step-F Written (Bool → List WrittenStep → List Word) WrittenStep
  open_step s = record { axis = (out-Step s).axis; test = (out-Step s).test; predicates = map (shown spaces names) (out-Step s).predicates }

  pub shown-step : (s : Step) → shown_step spaces names s ≡ step_form spaces names (open_step s)
  unfolding shown shown_step
  shown-step s = fold_out-Step Written (Bool → List WrittenStep → List Word) WrittenStep (form spaces names) (path_form spaces names) (step_form spaces names) s

  pub shown-step_of : (on : Axis) (test : NodeTest) (es : List Expr) → shown_step spaces names (step_of on test es) ≡ step_form spaces names (record { axis = on; test = test; predicates = map (shown spaces names) es })
  unfolding shown shown_step
  shown-step_of on test es = fold-roll-Step Written (Bool → List WrittenStep → List Word) WrittenStep (form spaces names) (path_form spaces names) (step_form spaces names) (record { axis = on; test = test; predicates = es })

  -- the rank and the words of an expression that is known to be of some kind
  pub ranked : (e f : Expr) (w : Written) → e ≡ f → shown spaces names f ≡ w → w.rank ≡ (shown spaces names e).rank
  ranked e f w is shows = sym (ap (λ (x : Expr). (shown spaces names x).rank) is ∙ ap (λ (x : Written). x.rank) shows)

  pub worded : (before : Bool) (e f : Expr) (w : Written) → e ≡ f → shown spaces names f ≡ w → w.words before ≡ (shown spaces names e).words before
  worded before e f w is shows = sym (ap (λ (x : Expr). (shown spaces names x).words before) is ∙ ap (λ (x : Written). x.words before) shows)

-- Texts that grow

pub spelled-append : (a b : List Word) → spelled (a ++ b) ≡ spelled a ++ spelled b
spelled-append a b = flat_map-append (λ (word : Word). word.1 ++ 32 ∷ []) a b

-- what is written with what is left to write stays the same when words are moved over
pub moved : (before after whole : List ℕ) (words left rest : List Word) → after ≡ before ++ spelled words → left ≡ words ++ rest → before ++ spelled left ≡ whole → after ++ spelled rest ≡ whole
moved before after whole words left rest wrote split had =
    ap (λ l. l ++ spelled rest) wrote
    ∙ append_assoc before (spelled words) (spelled rest)
    ∙ ap (λ l. before ++ l) (sym (spelled-append words rest) ∙ ap spelled (sym split))
    ∙ had

-- where nothing is left all is written
pub all_moved : (before whole : List ℕ) (left : List Word) → left ≡ [] → before ++ spelled left ≡ whole → before ≡ whole
all_moved before whole left none had = sym (append-nil before) ∙ ap (λ (l : List Word). before ++ spelled l) (sym none) ∙ had

-- a call's words by another name
pub renamed : {E : Type 0} (r : Result (Unit {0}) E) (before after : List ℕ) (a b : List Word) → a ≡ b → OnOk r (after ≡ before ++ spelled a) → OnOk r (after ≡ before ++ spelled b)
renamed r before after a b same h = subst (λ (words : List Word). OnOk r (after ≡ before ++ spelled words)) same h

-- a text that goes on is the one that was to be written
pub follows : {E : Type 0} (r : Result (Unit {0}) E) (before middle after : List ℕ) (left whole : List Word) → middle ++ spelled left ≡ before ++ spelled whole → OnOk r (after ≡ middle ++ spelled left) → OnOk r (after ≡ before ++ spelled whole)
follows r before middle after left whole same h = subst (λ (text : List ℕ). OnOk r (after ≡ text)) same h

-- words behind words
pub both : {E : Type 0} (r : Result (Unit {0}) E) (before middle after : List ℕ) (a b : List Word) → middle ≡ before ++ spelled a → OnOk r (after ≡ middle ++ spelled b) → OnOk r (after ≡ before ++ spelled (a ++ b))
both (Ok x) before middle after a b first second = second ∙ ap (λ l. l ++ spelled b) first ∙ append_assoc before (spelled a) (spelled b) ∙ ap (λ l. before ++ l) (sym (spelled-append a b))
both (Err e) before middle after a b first second = tt
