use Rattle.std.proofs.Common.{length}
use Rattle.index_lists.specs.Threads.{right_list}
use Rattle.index_lists.proofs.Clearing.{IsClearing}
use Rattle.index_lists.proofs.Threads.clear_right.Given as goal

abbrev pub invariant-loop-place : goal.invariant-loop-place
invariant-loop-place l = IsClearing l.initial.self l.self l.right

abbrev pub decreases-loop-place : goal.decreases-loop-place
decreases-loop-place l = length (right_list l.self l.right)
