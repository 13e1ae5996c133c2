use Rattle.std.proofs.Common.{◌≡◌, ◌<◌, Some}
use Rattle.linked_tree.specs.Forest.{count, above}
use Rattle.linked_tree.proofs.arena.Arena.ancestor.Given as goal

abbrev pub invariant-loop-level : goal.invariant-loop-level
invariant-loop-level l = (above l.self l._level l.node ≡ Some l.at) × (l.at < count l.self)
