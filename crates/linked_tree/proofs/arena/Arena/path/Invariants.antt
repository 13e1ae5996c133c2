use Rattle.std.proofs.Common.{◌≡◌, ◌<◌, ◌-◌, Some, reverse, vec_len}
use Rattle.linked_tree.specs.Forest.{count, above}
use Rattle.linked_tree.specs.Paths.{follow}
use Rattle.linked_tree.proofs.arena.Arena.path.Given as goal

abbrev pub invariant-loop-parent : goal.invariant-loop-parent
invariant-loop-parent l =
    (follow l.self (Some l.at) (reverse l.places.items) ≡ Some l.node) × (above l.self (vec_len l.places) l.node ≡ Some l.at) × (l.at < count l.self)

abbrev pub decreases-loop-parent : goal.decreases-loop-parent
decreases-loop-parent l = count l.self - vec_len l.places
