use Rattle.std.proofs.Common.{◌≡◌, ◌<◌, ◌-◌, Some}
use Rattle.linked_tree.specs.Forest.{count, above}
use Rattle.linked_tree.proofs.arena.Arena.depth.Given as goal

abbrev pub invariant-loop-parent : goal.invariant-loop-parent
invariant-loop-parent l = (above l.self l.depth l.node ≡ Some l.at) × (l.at < count l.self)

abbrev pub decreases-loop-parent : goal.decreases-loop-parent
decreases-loop-parent l = count l.self - l.depth
