use Rattle.std.proofs.Common.{◌≡◌, ◌≢◌, ◌<◌, Some}
use Rattle.linked_tree.specs.Forest.{count, above}
use Rattle.linked_tree.proofs.arena.Arena.parting.Given as goal

abbrev pub invariant-loop-level : goal.invariant-loop-level
invariant-loop-level l =
    (above l.self l._level l.a ≡ Some l.x) × (above l.self l._level l.b ≡ Some l.y) × (l.x < count l.self) × (l.y < count l.self) × (l.x ≢ l.y)
