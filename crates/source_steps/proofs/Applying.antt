-- One primitive more is applied, and all are.
use Rattle.std.proofs.Common.{◌≡◌, ℕ, ◌+◌, ◌≤◌, ◌⊎◌, inl, inr, List, [], ◌∷◌, ◌++◌, drop, length, Option, Contains, if◌then◌else◌, refl, sym, ap, ◌∙◌, subst, arith, append-nil, append_assoc}
use Rattle.std.specs.Prelude.{max}
use Rattle.std.proofs.lemmas.Bool.{cases_Bool}
use Rattle.std.proofs.lemmas.List.{drop_all}
use Rattle.std.proofs.lemmas.List.Elements.{Contains-push_cases, Contains-append_left, Contains-append_right}
use Rattle.serna_kinds.specs.declared.cells.Cell.{Cell}
use Rattle.serna_kinds.specs.Content.{Content}
use Rattle.serna_kinds.specs.Tape.{is_cell, with_cell}
use Rattle.serna_kinds.proofs.TapeLemmas.{is_cell-same, Contains-with_cell, Contains-with_cell_before}
use Rattle.source_model.specs.Source.{Source}
use Rattle.source_model.specs.Cells.{cell_of}
use Rattle.frozen_tree.specs.declared.kept.CellChange.{CellChange}
use Rattle.frozen_tree.specs.Frozen.{cells_of}
use Rattle.frozen_tree.specs.Maps.{left_by, with_change, changed_by}
use Rattle.source_primitives.specs.declared.primitive.Primitive.{Primitive}
use Rattle.source_primitives.specs.Primitives.{applied, applied_all, inverse, inverses, MayApplyAll}
use Rattle.source_primitives.proofs.ConsistentKept.{linked_kept}
use Rattle.source_steps.specs.declared.run.Run.{Run}
use Rattle.source_steps.specs.declared.step.Step.{Step}
use Rattle.source_steps.specs.Steps.{IsReady, Steps}
use Rattle.source_steps.specs.Runs.{IsReadyAll, Covers, Runs, Adds, Notes, IsRunTo}

-- a cell that changes make another is one of theirs
pub touched : (changes : List CellChange) (view : Cell → Option Content) (cell : Cell) → (changed_by changes view cell ≡ view cell) ⊎ ((change : CellChange) × Contains changes change × (change.cell ≡ cell))
touched [] view cell = inl refl
touched (change ∷ rest) view cell = elim (touched rest (with_change change view) cell) [
  | inr later ↦ inr (later.0, Contains-append_right (change ∷ []) rest later.0 later.1, later.2)
  | inl same ↦ elim (cases_Bool (is_cell change.cell cell)) [
    | inl own ↦ inr (change, Contains-append_left (change ∷ []) rest change (0, omega arith, refl), is_cell-same change.cell cell own)
    | inr other ↦ inl (same ∙ ap (λ b. if b then left_by change else view cell) other)
  ]
]

-- one change more is noted
pub notes_none : (run : Run) → Notes run [] run
notes_none run = record { cells = refl; made = refl; inverses = refl; keeps = λ cell there. there; notes = λ change there. absurd (let within = there.1 in omega (arith, within)) }

pub notes_more : (before now after : Run) (changes : List CellChange) (change : CellChange) → Notes before changes now → after.cells ≡ now.cells → after.made ≡ now.made → after.inverses ≡ now.inverses →
    after.touched.cells ≡ with_cell now.touched.cells change.cell → Notes before (changes ++ change ∷ []) after
notes_more before now after changes change noted cells made back more = record {
  cells = cells ∙ noted.cells;
  made = made ∙ noted.made;
  inverses = back ∙ noted.inverses;
  keeps = λ cell there. subst (λ log. Contains log cell) (sym more) (Contains-with_cell_before now.touched.cells change.cell cell (noted.keeps cell there));
  notes = λ other there. elim (Contains-push_cases changes change other there) [
    | inl old ↦ subst (λ log. Contains log other.cell) (sym more) (Contains-with_cell_before now.touched.cells change.cell other.cell (noted.notes other old))
    | inr same ↦ subst (λ (c : CellChange). Contains after.touched.cells c.cell) same (subst (λ log. Contains log change.cell) (sym more) (Contains-with_cell now.touched.cells change.cell))
  ];
}

-- one primitive is applied
pub step_added : (before noted after : Run) (primitive : Primitive) (step : Step) → Steps (cells_of before.cells) primitive step → Notes before step.changes noted →
    cells_of after.cells ≡ changed_by step.changes (cells_of noted.cells) → after.inverses ≡ noted.inverses ++ step.undoing ∷ [] → after.made ≡ max noted.made step.made →
    after.touched ≡ noted.touched → Adds before primitive after
step_added before noted after primitive step steps notes cells back made log =
    let same : cells_of after.cells ≡ changed_by step.changes (cells_of before.cells) = cells ∙ ap (λ f. changed_by step.changes (cells_of f)) notes.cells in
    record {
      left = λ source ready cell. ap (λ (m : Cell → Option Content). m cell) same ∙ steps.left source ready cell;
      counts = λ source ready is. made ∙ ap (λ n. max n step.made) (notes.made ∙ is) ∙ sym (steps.counts source ready);
      takes_back = λ source ready. back ∙ ap (λ ps. ps ++ step.undoing ∷ []) notes.inverses ∙ ap (λ p. before.inverses ++ p ∷ []) (steps.takes_back source ready);
      keeps = λ cell there. ap_log cell (notes.keeps cell there);
      covers = λ cell. elim (touched step.changes (cells_of before.cells) cell) [
        | inl as_it_was ↦ inl (ap (λ (m : Cell → Option Content). m cell) same ∙ as_it_was)
        | inr changed ↦ inr (ap_log cell (subst (Contains noted.touched.cells) changed.2 (notes.notes changed.0 changed.1)))
      ];
    }
  where
    ap_log : (cell : Cell) → Contains noted.touched.cells cell → Contains after.touched.cells cell
    ap_log cell there = subst (λ tape. Contains tape.cells cell) (sym log) there

-- at the start nothing is applied
pub run_begun : (view : Cell → Option Content) (made : ℕ) (primitives : List Primitive) (run : Run) → cells_of run.cells ≡ view → run.made ≡ made → run.inverses ≡ [] → (source : Source) →
    IsReadyAll view made primitives source → IsRunTo source primitives 0 run
run_begun view made primitives run cells count back source ready = record {
  now = source;
  linked = ready.linked;
  cells = λ cell. ap (λ (m : Cell → Option Content). m cell) cells ∙ ready.cells cell;
  counted = count ∙ ready.counted;
  may = ready.may;
  left = refl;
  back = ap (λ ps. ps ++ inverses primitives source) back;
}

-- the next one may be
pub ready_next : (source : Source) (primitives : List Primitive) (at : ℕ) (run : Run) (primitive : Primitive) → drop at primitives ≡ primitive ∷ drop (at + 1) primitives → (r : IsRunTo source primitives at run) →
    IsReady (cells_of run.cells) primitive r.now
ready_next source primitives at run primitive next r = record { linked = r.linked; cells = r.cells; may = (subst (λ ps. MayApplyAll ps r.now) next r.may).0 }

pub one_applied : (source : Source) (primitives : List Primitive) (at : ℕ) (run after : Run) (primitive : Primitive) → drop at primitives ≡ primitive ∷ drop (at + 1) primitives →
    IsRunTo source primitives at run → Adds run primitive after → IsRunTo source primitives (at + 1) after
one_applied source primitives at run after primitive next r adds =
    let ready = ready_next source primitives at run primitive next r in
    let rest : List Primitive = drop (at + 1) primitives in
    let may : MayApplyAll (primitive ∷ rest) r.now = subst (λ ps. MayApplyAll ps r.now) next r.may in
    record {
      now = applied primitive r.now;
      linked = linked_kept r.now primitive r.linked may.0;
      cells = adds.left r.now ready;
      counted = adds.counts r.now ready r.counted;
      may = may.1;
      left = ap (λ ps. applied_all ps r.now) (sym next) ∙ r.left;
      back = ap (λ ps. ps ++ inverses rest (applied primitive r.now)) (adds.takes_back r.now ready)
          ∙ append_assoc run.inverses (inverse primitive r.now ∷ []) (inverses rest (applied primitive r.now))
          ∙ ap (λ ps. run.inverses ++ inverses ps r.now) (sym next) ∙ r.back;
    }

pub covers_more : (view : Cell → Option Content) (run after : Run) (primitive : Primitive) → Covers view run → Adds run primitive after → Covers view after
covers_more view run after primitive covers adds cell = elim (covers cell) [
  | inr there ↦ inr (adds.keeps cell there)
  | inl same ↦ elim (adds.covers cell) [ inr there ↦ inr there | inl still ↦ inl (still ∙ same) ]
]

-- all are applied
pub all_applied : (view : Cell → Option Content) (made : ℕ) (primitives : List Primitive) (at : ℕ) (run : Run) → length primitives ≤ at → ((source : Source) → IsReadyAll view made primitives source → IsRunTo source primitives at run) →
    Covers view run → Runs view made primitives run
all_applied view made primitives at run past runs covers = record {
  left = λ source ready cell. (let r = runs source ready in r.cells cell ∙ ap (λ (s : Source). cell_of s cell) (nothing_left source r));
  counts = λ source ready. (let r = runs source ready in r.counted ∙ ap (λ (s : Source). s.made) (nothing_left source r));
  takes_back = λ source ready.
      (let r = runs source ready in
      sym (append-nil run.inverses) ∙ ap (λ ps. run.inverses ++ inverses ps r.now) (sym (drop_all at primitives past)) ∙ r.back);
  covers = covers;
}
  where
    nothing_left : (source : Source) (r : IsRunTo source primitives at run) → r.now ≡ applied_all primitives source
    nothing_left source r = ap (λ ps. applied_all ps r.now) (sym (drop_all at primitives past)) ∙ r.left
