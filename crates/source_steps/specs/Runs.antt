-- How primitives one after another change the cells that a source is kept by (this project's own).
use Rattle.std.specs.Prelude.{◌≡◌, ℕ, ◌⊎◌, List, [], ◌∷◌, ◌++◌, drop, Option, Contains}
use Rattle.serna_kinds.specs.declared.cells.Cell.{Cell}
use Rattle.serna_kinds.specs.Content.{Content}
use Rattle.source_model.specs.Source.{Source}
use Rattle.source_model.specs.Cells.{cell_of}
use Rattle.source_model.specs.Consistent.{IsLinked}
use Rattle.source_model.specs.Told.{AreSameCells}
use Rattle.frozen_tree.specs.declared.kept.CellChange.{CellChange}
use Rattle.frozen_tree.specs.Frozen.{cells_of}
use Rattle.source_primitives.specs.declared.primitive.Primitive.{Primitive}
use Rattle.source_primitives.specs.Primitives.{applied, applied_all, inverse, inverses, MayApplyAll}
use Rattle.source_steps.specs.declared.run.Run.{Run}
use Rattle.source_steps.specs.Steps.{IsReady}

-- a source that has these cells and these many numbers made, and to which primitives may be applied one after another
pub record IsReadyAll (view : Cell → Option Content) (made : ℕ) (primitives : List Primitive) (source : Source) : Type 0 where
  pub linked : IsLinked source
  pub cells : AreSameCells view (cell_of source)
  pub counted : made ≡ source.made
  pub may : MayApplyAll primitives source

-- there is one
abbrev pub MayRun : (Cell → Option Content) → ℕ → List Primitive → Type 0
MayRun view made primitives = (source : Source) × IsReadyAll view made primitives source

-- each cell is as it was, or among those that were touched
abbrev pub Covers : (Cell → Option Content) → Run → Type 0
Covers view run = (cell : Cell) → (cells_of run.cells cell ≡ view cell) ⊎ Contains run.touched.cells cell

-- what is left is the source that the primitives make, with its count, and what takes them back
pub record Runs (view : Cell → Option Content) (made : ℕ) (primitives : List Primitive) (run : Run) : Type 0 where
  pub left : (source : Source) → IsReadyAll view made primitives source → AreSameCells (cells_of run.cells) (cell_of (applied_all primitives source))
  pub counts : (source : Source) → IsReadyAll view made primitives source → run.made ≡ (applied_all primitives source).made
  pub takes_back : (source : Source) → IsReadyAll view made primitives source → run.inverses ≡ inverses primitives source
  pub covers : Covers view run

-- one primitive more is applied
pub record Adds (before : Run) (primitive : Primitive) (after : Run) : Type 0 where
  pub left : (source : Source) → IsReady (cells_of before.cells) primitive source → AreSameCells (cells_of after.cells) (cell_of (applied primitive source))
  pub counts : (source : Source) → IsReady (cells_of before.cells) primitive source → before.made ≡ source.made → after.made ≡ (applied primitive source).made
  pub takes_back : (source : Source) → IsReady (cells_of before.cells) primitive source → after.inverses ≡ before.inverses ++ inverse primitive source ∷ []
  pub keeps : (cell : Cell) → Contains before.touched.cells cell → Contains after.touched.cells cell
  pub covers : Covers (cells_of before.cells) after

-- cells are noted as touched, and all else stays
pub record Notes (before : Run) (changes : List CellChange) (after : Run) : Type 0 where
  pub cells : after.cells ≡ before.cells
  pub made : after.made ≡ before.made
  pub inverses : after.inverses ≡ before.inverses
  pub keeps : (cell : Cell) → Contains before.touched.cells cell → Contains after.touched.cells cell
  pub notes : (change : CellChange) → Contains changes change → Contains after.touched.cells change.cell

-- the primitives before a place are applied, and the others may be
pub record IsRunTo (source : Source) (primitives : List Primitive) (at : ℕ) (run : Run) : Type 0 where
  pub now : Source
  pub linked : IsLinked now
  pub cells : AreSameCells (cells_of run.cells) (cell_of now)
  pub counted : run.made ≡ now.made
  pub may : MayApplyAll (drop at primitives) now
  pub left : applied_all (drop at primitives) now ≡ applied_all primitives source
  pub back : run.inverses ++ inverses (drop at primitives) now ≡ inverses primitives source
