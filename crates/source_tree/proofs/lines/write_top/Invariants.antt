use Rattle.std.proofs.Common.{◌≡◌, ℕ, false, map, Option}
use Rattle.serna_kinds.specs.Limits.{depth_limit}
use Rattle.source_model.specs.Source.{Forest, numbers}
use Rattle.source_model.specs.Cells.{named}
use Rattle.frozen_tree.specs.Frozen.{cells_of}
use Rattle.source_steps.specs.Taking.{AreWithin}
use Rattle.source_tree.specs.Lines.{StillAtTop}
use Rattle.source_tree.proofs.lines.write_top.Given as goal

-- the neighbours that were written, no element among them, and those that are left
abbrev pub invariant-neighbours : goal.invariant-neighbours
invariant-neighbours l =
    (up : Option ℕ) (forest : Forest) → AreWithin (cells_of l.cells) up depth_limit forest → l.kids ≡ map named (numbers forest) →
    StillAtTop (cells_of l.cells) up l.kids l.place l.names l.spaces l.initial.writer false l.writer forest
