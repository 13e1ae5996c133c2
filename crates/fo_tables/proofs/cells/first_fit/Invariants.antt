use Rattle.std.proofs.Common.{ℕ, ◌≤◌, ◌<◌, ◌+◌, get_or}
use Rattle.fo_tables.proofs.cells.first_fit.Given as goal

-- the columns from the first one on are free so far, and no earlier column has so many
abbrev pub invariant-loop-column : goal.invariant-loop-column
invariant-loop-column l = record {
  behind : l.from ≤ l.first;
  reached : l.first ≤ l.column;
  short : l.column ≤ l.first + l.count;
  free : (k : ℕ) → l.first ≤ k → k < l.column → get_or l.until k 0 ≤ l.row;
  first : (start : ℕ) → l.from ≤ start → start < l.first → (k : ℕ) × (start ≤ k) × (k < start + l.count) × (l.row < get_or l.until k 0);
}
