-- Places without a value are added until the place is there, and nothing else shows.
use Rattle.std.proofs.Common.{◌≡◌, ℕ, ◌+◌, ◌-◌, length}
use Rattle.std.specs.Arc.{arc_value}
use Rattle.frozen_tree.specs.Shelves.{place_in}
use Rattle.frozen_tree.proofs.ShelfLemmas.{shown}
use Rattle.frozen_tree.proofs.shelf.Shelf.put.Given as goal

abbrev pub invariant-loop-self : goal.invariant-loop-self
invariant-loop-self g l =
    (k : ℕ) → place_in g.T.Shelved.nothing (shown arc_value l.self-inside.places.items) k ≡ place_in g.T.Shelved.nothing (shown arc_value l.initial.self-inside.places.items) k

abbrev pub decreases-loop-self : goal.decreases-loop-self
decreases-loop-self g l = l.place + 1 - length l.self-inside.places.items
