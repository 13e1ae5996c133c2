use Rattle.live_editor.proofs.Moving.{OnTour}
use Rattle.live_editor.proofs.place.moved_through.Given as goal

-- moved by the changes that are left, the place is where it ends
abbrev pub invariant-loop-moves : goal.invariant-loop-moves
invariant-loop-moves l = OnTour l.since l.moves-index l.fn.place l.place
