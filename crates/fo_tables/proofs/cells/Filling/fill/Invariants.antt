use Rattle.std.proofs.Common.{◌≡◌, ℕ, ◌≤◌, get_or, length, take}
use Rattle.std.specs.List.{fold}
use Rattle.fo_tables.specs.Cells.{with_cell}
use Rattle.fo_tables.specs.Taken.{AreTaken, IsSearched}
use Rattle.fo_tables.proofs.cells.Filling.fill.Given as goal

-- the cells of the spans so far are placed
abbrev pub invariant-loop-span : goal.invariant-loop-span
invariant-loop-span l = record {
  cells : l.self.cells ≡ fold (with_cell l.rows_left l.row) l.initial.self.cells (take l.span-index l.spans);
  taken : AreTaken l.self.cells l.self.until l.row;
  searched : IsSearched l.self.cells l.row l.searched;
  reach : (count : ℕ) → get_or l.searched count 0 ≤ length l.self.until;
  long : length l.searched ≡ 101;
}
