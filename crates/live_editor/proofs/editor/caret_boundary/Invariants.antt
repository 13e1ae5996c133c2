use Rattle.std.proofs.Common.{◌≡◌, ◌≤◌, take, filter, length}
use Rattle.plain_editor.specs.Stops.{comes_from}
use Rattle.live_editor.specs.Shown.{boundaries_of}
use Rattle.live_editor.proofs.StandingLaws.{LooksOn}
use Rattle.live_editor.proofs.editor.caret_boundary.Given as goal

-- what was found among the boundaries so far
abbrev pub invariant-loop-here : goal.invariant-loop-here
invariant-loop-here l =
    LooksOn l.caret.place l.caret.occurrence l.boundaries l.here-index l.last
    × (l.count ≡ length (filter (comes_from l.caret.place) (boundaries_of (take l.here-index l.boundaries)))) × (l.count ≤ l.here-index)
