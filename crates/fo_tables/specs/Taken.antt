-- What the code keeps of a grid: from which row on each column is free.
use Rattle.std.specs.Prelude.{◌≡◌, ℕ, ◌+◌, ◌≤◌, ◌<◌, false, nat_le, List, length, slice_index}
use Rattle.fo_tables.specs.declared.cells.GridCell.{GridCell}
use Rattle.fo_tables.specs.Cells.{is_free, are_free}

-- from that row on, a column is free in the rows from the one that is kept for it
abbrev pub AreTaken : List GridCell → List ℕ → ℕ → Type 0
AreTaken cells until row = (below column : ℕ) → row ≤ below → is_free cells below column ≡ nat_le (slice_index until column) below

-- the first column, of those from one on, from which so many are free in the row
pub record IsFirstFit (until : List ℕ) (row from count found : ℕ) : Type 0 where
  pub behind : from ≤ found
  pub within : found ≤ length until
  pub free : (column : ℕ) → found ≤ column → column < found + count → slice_index until column ≤ row
  pub first : (start : ℕ) → from ≤ start → start < found → (column : ℕ) × (start ≤ column) × (column < start + count) × (row < slice_index until column)

-- for each count of columns, those before the column that is kept for it are searched: no place there has so many free
abbrev pub IsSearched : List GridCell → ℕ → List ℕ → Type 0
IsSearched cells row searched = (count start : ℕ) → start < slice_index searched count → are_free cells row count start ≡ false
