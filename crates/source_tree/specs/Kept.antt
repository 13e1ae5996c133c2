-- How a source in memory is kept: by its cells and by how many numbers were made (this project's own).
use Rattle.std.specs.Prelude.{ℕ, List, [], Option}
use Rattle.serna_kinds.specs.declared.cells.Cell.{Cell}
use Rattle.serna_kinds.specs.Content.{Content}
use Rattle.serna_kinds.specs.Names.{Space}
use Rattle.source_model.specs.Source.{Source}
use Rattle.source_model.specs.Cells.{cell_of}
use Rattle.source_model.specs.Consistent.{IsLinked}
use Rattle.source_model.specs.Told.{told_tree, AreSameCells}

-- the source that has these cells
abbrev pub source_told : (Cell → Option Content) → ℕ → List Space → Source
source_told view made spaces = record { tree = told_tree view; made = made; spaces = spaces }

-- cells are those of the source that they tell, and of no node besides
pub record IsKept (view : Cell → Option Content) (made : ℕ) : Type 0 where
  pub linked : IsLinked (source_told view made [])
  pub cells : AreSameCells view (cell_of (source_told view made []))
