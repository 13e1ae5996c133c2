use Rattle.std.proofs.Common.{◌≡◌, drop}
use Rattle.fo_tables.specs.Cells.{with_rows, grid_of}
use Rattle.fo_tables.specs.Taken.{AreTaken}
use Rattle.fo_tables.proofs.cells.grid.Given as goal

-- the rows that are left, added to those so far, make the grid
abbrev pub invariant-loop-row : goal.invariant-loop-row
invariant-loop-row l = record {
  cells : with_rows l.row l.filling.cells (drop l.row l.rows) ≡ grid_of l.rows;
  taken : AreTaken l.filling.cells l.filling.until l.row;
}
