use Rattle.std.proofs.Common.{◌≡◌, ◌+◌, take}
use Rattle.dependency_log.specs.Edges.{cells_in, IsSound, IsSameBut}
use Rattle.dependency_log.proofs.edges.Edges.connect.Given as goal

abbrev pub invariant-loop-cell : goal.invariant-loop-cell
invariant-loop-cell l = record {
  sound : IsSound l.self;
  cells : cells_in l.self l.slot ≡ take l.cell-index l.cells;
  same : IsSameBut l.initial.self l.self l.slot;
  room : l.self.threads.spare + l.cell-index ≡ l.initial.self.threads.spare;
}
