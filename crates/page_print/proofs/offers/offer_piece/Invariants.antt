use Rattle.std.proofs.Common.{length, ◌-◌, ◌≡◌, ◌≤◌, take}
use Rattle.serna_outside.specs.Outside.{Appends}
use Rattle.page_print.proofs.offers.offer_piece.Given as goal

-- so much of the piece is written
abbrev pub invariant-rest : goal.invariant-rest
invariant-rest g l =
    (l.done ≤ length l.piece) × Appends (g.K.Sink.held l.initial.sink) (g.K.Sink.held l.sink) (take l.done l.piece) × (g.K.Sink.faults l.sink ≡ g.K.Sink.faults l.initial.sink)

abbrev pub decreases-rest : goal.decreases-rest
decreases-rest g l = length l.piece - l.done
