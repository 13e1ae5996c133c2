use Rattle.std.proofs.Common.{◌≡◌, take}
use Rattle.dependency_log.specs.Logged.{each_once}
use Rattle.dependency_log.proofs.edges.named_once.Given as goal

abbrev pub invariant-loop-cell : goal.invariant-loop-cell
invariant-loop-cell l = l.named.keys ≡ each_once (take l.cell-index l.cells)
