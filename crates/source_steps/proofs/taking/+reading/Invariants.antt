use Rattle.std.proofs.Common.{◌≡◌, ℕ, ◌+◌, ◌*◌, map, Option}
use Rattle.source_model.specs.Source.{Forest, numbers}
use Rattle.source_model.specs.Cells.{named}
use Rattle.frozen_tree.specs.Frozen.{cells_of}
use Rattle.source_steps.specs.Taking.{AreWithin, StillToRead}
use Rattle.source_steps.proofs.taking.+reading.Given as goal

abbrev pub decreases-read_all : goal.decreases-read_all
decreases-read_all l = 3 * l.left + 2

abbrev pub decreases-read_node : goal.decreases-read_node
decreases-read_node l = 3 * l.left + 1

abbrev pub decreases-read_element : goal.decreases-read_element
decreases-read_element l = 3 * l.left

-- the neighbours that were read, and those that are left
abbrev pub invariant-read_all-neighbours : goal.invariant-read_all-neighbours
invariant-read_all-neighbours l =
    (up : Option ℕ) (forest : Forest) → AreWithin (cells_of l.cells) up l.left forest → l.kids ≡ map named (numbers forest) →
    StillToRead (cells_of l.cells) up l.left l.kids l.kid-index l.initial.items l.items forest
