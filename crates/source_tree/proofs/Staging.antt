-- What is staged is what the primitives make of the source.
use Rattle.std.proofs.Common.{◌≡◌, ℕ, ◌⊎◌, ◌↔◌, inl, inr, Bool, true, false, List, [], Option, Contains, if◌then◌else◌, refl, sym, ap, ◌∙◌, subst}
use Rattle.std.proofs.lemmas.Bool.{cases_Bool}
use Rattle.serna_kinds.specs.declared.cells.Cell.{Cell}
use Rattle.serna_kinds.specs.Content.{Content}
use Rattle.serna_kinds.specs.Names.{Space}
use Rattle.source_model.specs.Source.{Source}
use Rattle.source_model.specs.Cells.{cell_of}
use Rattle.source_model.specs.Consistent.{IsLinked}
use Rattle.source_model.specs.Told.{AreSameCells}
use Rattle.frozen_tree.specs.Frozen.{cells_of}
use Rattle.frozen_tree.specs.Maps.{Stamps, names, changed_by, stamped_by}
use Rattle.source_primitives.specs.declared.primitive.Primitive.{Primitive}
use Rattle.source_primitives.specs.Primitives.{applied_all, inverses, MayApplyAll}
use Rattle.source_primitives.proofs.UndoneAll.{same_spaces_all, linked_all}
use Rattle.source_steps.specs.declared.run.Run.{Run}
use Rattle.source_steps.specs.declared.difference.Difference.{Difference}
use Rattle.source_steps.specs.Runs.{IsReadyAll, MayRun, Runs}
use Rattle.source_steps.specs.Differences.{IsDifference}
use Rattle.source_steps.proofs.Differing.{difference_left, difference_exact}
use Rattle.source_tree.specs.Kept.{source_told, IsKept}
use Rattle.source_tree.proofs.KeptBack.{kept_linked, kept_of, told_source}

-- a source that is kept may be run on
pub ready : (view : Cell → Option Content) (made : ℕ) (spaces : List Space) (primitives : List Primitive) → IsKept view made → MayApplyAll primitives (source_told view made spaces) →
    IsReadyAll view made primitives (source_told view made spaces)
ready view made spaces primitives kept may = record {
  linked = kept_linked view made spaces kept;
  cells = kept.cells;
  counted = refl;
  may = may;
}

-- what is staged
pub record IsStaged (view : Cell → Option Content) (made : ℕ) (spaces : List Space) (primitives : List Primitive) (run : Run) (difference : Difference) (new : Cell → Option Content) : Type 0 where
  pub kept : IsKept new run.made
  pub source : source_told new run.made spaces ≡ applied_all primitives (source_told view made spaces)
  pub back : run.inverses ≡ inverses primitives (source_told view made spaces)
  pub exact : (cell : Cell) → Contains difference.cells.cells cell ↔ (cell_of (source_told view made spaces) cell ≡ cell_of (source_told new run.made spaces) cell → ⊥)

pub staged : (view : Cell → Option Content) (made : ℕ) (spaces : List Space) (primitives : List Primitive) (run : Run) (difference : Difference) (new : Cell → Option Content) → IsKept view made →
    MayApplyAll primitives (source_told view made spaces) → Runs view made primitives run → IsDifference view (cells_of run.cells) run.touched.cells difference →
    new ≡ changed_by difference.changes view → IsStaged view made spaces primitives run difference new
staged view made spaces primitives run difference new kept may runs is made_new =
    let s : Source = source_told view made spaces in
    let r = ready view made spaces primitives kept may in
    let left : Source = applied_all primitives s in
    let linked : IsLinked left = linked_all s primitives r.linked may in
    let count : run.made ≡ left.made = runs.counts s r in
    let new_is : (cell : Cell) → new cell ≡ cells_of run.cells cell = λ cell. ap (λ (m : Cell → Option Content). m cell) made_new ∙ difference_left view (cells_of run.cells) run.touched.cells difference runs.covers is cell in
    let same : AreSameCells new (cell_of left) = λ cell. new_is cell ∙ runs.left s r cell in
    let source : source_told new run.made spaces ≡ left = told_source left new run.made spaces linked same count (sym (same_spaces_all primitives s)) in
    record {
      kept = kept_of left new run.made linked same count;
      source = source;
      back = runs.takes_back s r;
      exact = λ cell.
          (let one : view cell ≡ cell_of s cell = kept.cells cell in
          let other : cells_of run.cells cell ≡ cell_of (source_told new run.made spaces) cell = runs.left s r cell ∙ ap (λ (t : Source). cell_of t cell) (sym source) in
          let exact = difference_exact view (cells_of run.cells) run.touched.cells difference runs.covers is cell in (
            λ there e. exact.0 there (one ∙ e ∙ sym other),
            λ differ. exact.1 (λ e. differ (sym one ∙ e ∙ other)),
          ));
    }

-- the stamps of cells that were changed, and of the others
pub stamped : (difference : Difference) (view new : Cell → Option Content) (cells : List Cell) (taken : ℕ) (old left : Stamps) → IsDifference view new cells difference → left ≡ stamped_by taken difference.changes old →
    (cell : Cell) → Contains difference.cells.cells cell → left cell ≡ taken
stamped difference view new cells taken old left is e cell there = ap (λ (m : Stamps). m cell) e ∙ ap (λ b. if b then taken else old cell) ((is.named cell).1 there)

pub unstamped : (difference : Difference) (view new : Cell → Option Content) (cells : List Cell) (taken : ℕ) (old left : Stamps) → IsDifference view new cells difference → left ≡ stamped_by taken difference.changes old →
    (cell : Cell) → (Contains difference.cells.cells cell → ⊥) → left cell ≡ old cell
unstamped difference view new cells taken old left is e cell absent = ap (λ (m : Stamps). m cell) e ∙ elim (cases_Bool (names difference.changes cell)) [
  | inl named ↦ absurd (absent ((is.named cell).0 named))
  | inr unnamed ↦ ap (λ b. if b then taken else old cell) unnamed
]
