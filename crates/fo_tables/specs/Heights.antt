-- The heights of rows (CSS 2, 17.5.3, where a cell that spans rows makes them together high enough). That the last row which a cell
-- spans takes what the others leave is this project's own.
use Rattle.std.specs.Prelude.{ℕ, zero, suc, ◌+◌, ◌-◌, ◌≤◌, ◌==◌, max, Bool, ℤ, List, [], ◌∷◌, ◌++◌, length, map, take, drop}
use Rattle.std.specs.List.{fold, filter, sum}
use Rattle.fo_tables.specs.declared.cells.GridCell.{GridCell}
use Rattle.fo_tables.specs.Sizes.{size}

-- a cell, with the height that its content needs
pub record TallCell : Type 0 where
  pub cell : GridCell
  pub height : ℤ

abbrev pub tall_cells : List GridCell → List ℤ → List TallCell
tall_cells (cell ∷ cells) (height ∷ heights) = record { cell = cell; height = height } ∷ tall_cells cells heights
tall_cells (cell ∷ cells) [] = []
tall_cells [] heights = []

-- that row is the last one which the cell spans
abbrev pub ends_in : ℕ → TallCell → Bool
ends_in row tall = tall.cell.row + tall.cell.span.rows == row + 1

-- what a cell needs beyond the earlier rows that it spans
abbrev pub beyond : List ℕ → TallCell → ℕ
beyond earlier tall = size tall.height - sum (drop tall.cell.row earlier)

abbrev pub greatest : List ℕ → ℕ
greatest sizes = fold max 0 sizes

-- the row behind the earlier ones is as high as the cells that end in it need beyond the earlier rows that they span
abbrev pub row_height : List TallCell → List ℕ → ℕ
row_height cells earlier = greatest (map (beyond earlier) (filter (ends_in (length earlier)) cells))

-- one row more
abbrev pub with_row : List TallCell → List ℕ → List ℕ
with_row cells earlier = earlier ++ row_height cells earlier ∷ []

-- the heights of so many rows
abbrev pub heights_of : List TallCell → ℕ → List ℕ
heights_of cells zero = []
heights_of cells (suc rows) = with_row cells (heights_of cells rows)

-- ---- in the words of the subject

-- the rows that a cell spans are together as high as it needs
abbrev pub IsHighEnough : List ℕ → TallCell → Type 0
IsHighEnough heights tall = size tall.height ≤ sum (take tall.cell.span.rows (drop tall.cell.row heights))

-- it spans a row at least, and none behind the last one
pub record SpansSome (rows : ℕ) (tall : TallCell) : Type 0 where
  pub some : 1 ≤ tall.cell.span.rows
  pub within : tall.cell.row + tall.cell.span.rows ≤ rows
