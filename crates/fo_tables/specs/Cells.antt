-- The grid of the cells of a part of a table (XSL 1.1, 6.7.10, 7.28.12 and 7.28.13; the model of CSS 2, 17.5). Rows and columns are
-- counted from 0. A cell stands in a row and a column, and covers so many columns and rows from there on.
use Rattle.std.specs.Prelude.{◌≡◌, ℕ, zero, suc, ◌+◌, ◌-◌, ◌≤◌, ◌<◌, min, max, Bool, true, not, ◌&&◌, nat_le, nat_lt, List, [], ◌∷◌, ◌++◌, length, map, false}
use Rattle.std.specs.List.{fold, list_any, position_or_len, range_with_len}
use Rattle.fo_tables.specs.declared.cells.Span.{Span}
use Rattle.fo_tables.specs.declared.cells.GridCell.{GridCell}

-- a cell spans from 1 to 100 columns, and as many rows
pub record IsSpan (span : Span) : Type 0 where
  pub some_columns : 1 ≤ span.columns
  pub most_columns : span.columns ≤ 100
  pub some_rows : 1 ≤ span.rows
  pub most_rows : span.rows ≤ 100

-- n is one of so many numbers from the first on
abbrev pub is_within : ℕ → ℕ → ℕ → Bool
is_within first count n = nat_le first n && nat_lt n (first + count)

abbrev pub covers : ℕ → ℕ → GridCell → Bool
covers row column cell = is_within cell.row cell.span.rows row && is_within cell.column cell.span.columns column

-- no cell covers that place
abbrev pub is_free : List GridCell → ℕ → ℕ → Bool
is_free cells row column = not (list_any (covers row column) cells)

-- so many columns from that one on are free in the row
abbrev pub are_free : List GridCell → ℕ → ℕ → ℕ → Bool
are_free cells row zero column = true
are_free cells row (suc count) column = are_free cells row count column && is_free cells row (column + count)

-- the column behind all cells
abbrev pub columns_of : List GridCell → ℕ
columns_of cells = fold max 0 (map (λ cell. cell.column + cell.span.columns) cells)

-- the first column from which so many are free in the row
abbrev pub first_free : List GridCell → ℕ → ℕ → ℕ
first_free cells row count = position_or_len (are_free cells row count) (range_with_len 0 (columns_of cells))

-- the rows that a cell spans are cut at the end of the part
abbrev pub cut_span : ℕ → Span → Span
cut_span rows_left span = record { columns = span.columns; rows = min span.rows rows_left }

-- one more cell in a row: it takes the first columns that are all free there
abbrev pub with_cell : ℕ → ℕ → List GridCell → Span → List GridCell
with_cell rows_left row cells span = cells ++ record { row = row; column = first_free cells row span.columns; span = cut_span rows_left span } ∷ []

-- one row of cells more after another, the first of them being that row
abbrev pub with_rows : ℕ → List GridCell → List (List Span) → List GridCell
with_rows row cells [] = cells
with_rows row cells (spans ∷ rows) = with_rows (row + 1) (fold (with_cell (length rows + 1) row) cells spans) rows

abbrev pub grid_of : List (List Span) → List GridCell
grid_of rows = with_rows 0 [] rows

-- ---- in the words of the subject

-- the cell stands in the first columns of its row that no cell before it covers
pub record IsFirstFree (before : List GridCell) (cell : GridCell) : Type 0 where
  pub free : (column : ℕ) → cell.column ≤ column → column < cell.column + cell.span.columns → is_free before cell.row column ≡ true
  pub first : (start : ℕ) → start < cell.column → (column : ℕ) × (start ≤ column) × (column < start + cell.span.columns) × (is_free before cell.row column ≡ false)

-- the rows and spans of the cells of a part, the rows cut at its end
abbrev pub spans_from : ℕ → List (List Span) → List (ℕ × Span)
spans_from row [] = []
spans_from row (spans ∷ rows) = map (λ span. (row, cut_span (length rows + 1) span)) spans ++ spans_from (row + 1) rows
