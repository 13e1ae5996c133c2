use Rattle.std.proofs.Common.{◌≡◌, ◌+◌, ◌≤◌, length, take}
use Rattle.std.specs.Prelude.{All, Contains}
use Rattle.dependency_log.specs.Edges.{log_of, IsSound}
use Rattle.dependency_log.proofs.edges.Edges.name_cells.Given as goal

abbrev pub invariant-loop-cell : goal.invariant-loop-cell
invariant-loop-cell l = record {
  sound : IsSound l.self;
  cells : All (Contains l.self.cells.keys) (take l.cell-index l.cells);
  count : length l.self.cells.keys ≤ length l.initial.self.cells.keys + l.cell-index;
  slots : l.self.slots.keys ≡ l.initial.self.slots.keys;
  threads : l.self.threads ≡ l.initial.self.threads;
  same : log_of l.self ≡ log_of l.initial.self;
}
