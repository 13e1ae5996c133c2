use Rattle.live_editor.proofs.Moving.{OnWay}
use Rattle.live_editor.proofs.place.carried_through.Given as goal

-- carried through the prims that are left, the place is where it ends
abbrev pub invariant-loop-prim : goal.invariant-loop-prim
invariant-loop-prim l = OnWay l.prims l.prim-index l.fn.place l.place
