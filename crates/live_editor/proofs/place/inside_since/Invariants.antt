use Rattle.std.proofs.Common.{◌≡◌, drop}
use Rattle.source_primitives.specs.Places.{inside_since}
use Rattle.live_editor.proofs.place.inside_since.Given as goal

-- none of the elements so far was this one
abbrev pub invariant-loop-one : goal.invariant-loop-one
invariant-loop-one l = inside_since (drop l.one-index l.begun) l.node ≡ inside_since l.begun l.node
