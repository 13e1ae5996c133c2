use Rattle.std.proofs.Common.{length, ◌-◌, ◌≡◌, ◌≤◌, take}
use Rattle.serna_outside.specs.Outside.{Appends}
use Rattle.page_print.proofs.offers.offer_lines.Given as goal

-- so much of the text is written
abbrev pub invariant-lines : goal.invariant-lines
invariant-lines g l =
    (l.done ≤ length l.text) × Appends (g.K.Sink.held l.initial.sink) (g.K.Sink.held l.sink) (take l.done l.text) × (g.K.Sink.faults l.sink ≡ g.K.Sink.faults l.initial.sink)

abbrev pub decreases-lines : goal.decreases-lines
decreases-lines g l = length l.text - l.done
