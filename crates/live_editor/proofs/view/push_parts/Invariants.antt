-- the boundaries so far, with those of the parts that are left
use Rattle.std.proofs.Common.{◌≡◌, ◌≤◌, ◌++◌, drop, length}
use Rattle.plain_editor.specs.Stops.{part_boundaries}
use Rattle.live_editor.specs.Shown.{boundaries_of}
use Rattle.live_editor.proofs.view.push_parts.Given as goal

abbrev pub invariant-loop-part : goal.invariant-loop-part
invariant-loop-part l =
    (l.column ≤ length l.boundaries.items)
    × (boundaries_of l.boundaries.items ++ part_boundaries l.page l.line l.column (drop l.part-index l.parts) ≡ boundaries_of l.initial.boundaries.items ++ part_boundaries l.page l.line 0 l.parts)
