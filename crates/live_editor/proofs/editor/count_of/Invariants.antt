use Rattle.std.proofs.Common.{◌≡◌, ◌≤◌, take, filter, length}
use Rattle.plain_editor.specs.Stops.{comes_from}
use Rattle.live_editor.specs.Shown.{boundaries_of}
use Rattle.live_editor.proofs.editor.count_of.Given as goal

-- those among the boundaries so far
abbrev pub invariant-loop-here : goal.invariant-loop-here
invariant-loop-here l = (l.count ≡ length (filter (comes_from l.place) (boundaries_of (take l.here-index l.boundaries)))) × (l.count ≤ l.here-index)
