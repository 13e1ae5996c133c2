use Rattle.std.proofs.Common.{◌≡◌, drop}
use Rattle.std.specs.List.{find}
use Rattle.live_editor.specs.Held.{is_at}
use Rattle.live_editor.proofs.editor.refusal_at.Given as goal

-- none of the boundaries so far is there
abbrev pub invariant-loop-here : goal.invariant-loop-here
invariant-loop-here l = find (is_at l.page l.line l.column) (drop l.here-index l.boundaries) ≡ find (is_at l.page l.line l.column) l.boundaries
