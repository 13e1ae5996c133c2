use Rattle.std.proofs.Common.{◌≡◌, ℕ, ◌+◌, ◌*◌, map, Option}
use Rattle.source_model.specs.Source.{Forest, numbers}
use Rattle.source_model.specs.Cells.{named}
use Rattle.frozen_tree.specs.Frozen.{cells_of}
use Rattle.source_steps.specs.Taking.{AreWithin}
use Rattle.source_tree.specs.Lines.{StillToWrite}
use Rattle.source_tree.proofs.lines.+writing.Given as goal

abbrev pub decreases-write_kids : goal.decreases-write_kids
decreases-write_kids l = 4 * l.left + 2

abbrev pub decreases-write_node : goal.decreases-write_node
decreases-write_node l = 4 * l.left + 1

abbrev pub decreases-write_element : goal.decreases-write_element
decreases-write_element l = 4 * l.left

abbrev pub decreases-write_content : goal.decreases-write_content
decreases-write_content l = 4 * l.left + 3

-- the neighbours that were written, and those that are left
abbrev pub invariant-write_kids-neighbours : goal.invariant-write_kids-neighbours
invariant-write_kids-neighbours l =
    (up : Option ℕ) (forest : Forest) → AreWithin (cells_of l.cells) up l.left forest → l.kids ≡ map named (numbers forest) →
    StillToWrite (cells_of l.cells) up l.left l.kids l.kid-index l.names l.initial.writer l.writer forest
