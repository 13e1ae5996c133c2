-- On which of some cells two maps differ (this project's own).
use Rattle.std.specs.Prelude.{◌≡◌, ◌↔◌, ◌⊎◌, true, List, [], ◌∷◌, ◌++◌, Option, All, Contains}
use Rattle.serna_kinds.specs.declared.cells.Cell.{Cell}
use Rattle.serna_kinds.specs.Content.{Content}
use Rattle.serna_kinds.specs.Tape.{with_cell}
use Rattle.frozen_tree.specs.declared.kept.CellChange.{CellChange}
use Rattle.frozen_tree.specs.Maps.{left_by, names}
use Rattle.source_steps.specs.declared.difference.Difference.{Difference}

-- the cells found are those of the given ones on which the maps differ, and the changes give each of them what the new map has there
pub record IsDifference (old new : Cell → Option Content) (cells : List Cell) (difference : Difference) : Type 0 where
  pub differ : (cell : Cell) → Contains difference.cells.cells cell → old cell ≡ new cell → ⊥
  pub all : (cell : Cell) → Contains cells cell → (old cell ≡ new cell) ⊎ Contains difference.cells.cells cell
  pub named : (cell : Cell) → (names difference.changes cell ≡ true) ↔ Contains difference.cells.cells cell
  pub says : All (λ change. left_by change ≡ new change.cell) difference.changes

-- one cell is looked at: it is the same in both and nothing is added, or it is added with what the new map has there
abbrev pub Looks : (Cell → Option Content) → (Cell → Option Content) → Cell → Difference → Difference → Type 0
Looks old new cell before after =
    ((old cell ≡ new cell) × (after ≡ before))
    ⊎ ((old cell ≡ new cell → ⊥) × (change : CellChange) × (change.cell ≡ cell) × (left_by change ≡ new cell) × (after.cells.cells ≡ with_cell before.cells.cells cell)
    × (after.changes ≡ before.changes ++ change ∷ []))
