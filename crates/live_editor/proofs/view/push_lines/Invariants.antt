-- the boundaries so far, with those of the lines that are left
use Rattle.std.proofs.Common.{◌≡◌, ◌+◌, ◌++◌, drop}
use Rattle.plain_editor.specs.Stops.{line_boundaries}
use Rattle.live_editor.specs.Shown.{boundaries_of}
use Rattle.live_editor.proofs.view.push_lines.Given as goal

abbrev pub invariant-loop-line : goal.invariant-loop-line
invariant-loop-line l =
    (l.number ≡ l.line-index)
    × (boundaries_of l.boundaries.items ++ line_boundaries l.page (l.number + 1) (drop l.line-index l.lines) ≡ boundaries_of l.initial.boundaries.items ++ line_boundaries l.page 1 l.lines)
