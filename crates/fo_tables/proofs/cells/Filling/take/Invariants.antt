use Rattle.std.proofs.Common.{◌≡◌, ℕ, ◌≤◌, ◌-◌, cond, get_or, length}
use Rattle.fo_tables.specs.Cells.{is_within}
use Rattle.fo_tables.proofs.cells.Filling.take.Given as goal

-- the columns so far are taken
abbrev pub invariant-loop-column : goal.invariant-loop-column
invariant-loop-column l = record {
  cells : l.self.cells ≡ l.initial.self.cells;
  reached : l.column ≤ length l.self.until;
  grown : length l.initial.self.until ≤ length l.self.until;
  until : (k : ℕ) → get_or l.self.until k 0 ≡ cond (is_within l.first (l.column - l.first) k) l.end (get_or l.initial.self.until k 0);
}
