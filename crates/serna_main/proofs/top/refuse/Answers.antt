use Rattle.std.proofs.Common.{IsTrue, refl, sym, subst}
use Rattle.serna_outside.specs.Outside.{Appends}
use Rattle.serna_main.specs.Out.{refusal}
use Rattle.serna_main.proofs.Answered.{answered_refused, answered_write_fault, front_refused, not_finished}
use Rattle.serna_main.proofs.top.refuse.Goals as goal

pub returns-then-offer : goal.returns-then-offer
returns-then-offer g c = λ input refused.
    answered_refused input (g.K.Sink.held c.args.sink.now) (g.K.Sink.held c.close.new.sink) (g.K.Sink.faults c.args.sink.now) (g.K.Sink.faults c.close.new.sink) (IsTrue (g.K.Sink.is_finished c.close.new.sink))
    c.close.result refused (subst (λ h. Appends (g.K.Sink.held c.args.sink.now) h refusal) (sym c.close.ensures.held) (c.if-offer.ensures.written refl)) c.close.ensures.finished c.close.ensures.status

pub returns-else-offer : goal.returns-else-offer
returns-else-offer g c = λ input refused.
    answered_write_fault input (g.K.Sink.held c.args.sink.now) (g.K.Sink.held c.offer.new.sink) (g.K.Sink.faults c.args.sink.now) (g.K.Sink.faults c.offer.new.sink) (IsTrue (g.K.Sink.is_finished c.offer.new.sink))
    (front_refused input (g.K.Sink.held c.args.sink.now) (g.K.Sink.held c.offer.new.sink) refused c.if-offer.ensures.front) (c.if-offer.ensures.failed refl) (not_finished (g.K.Sink.is_finished c.offer.new.sink) (c.if-offer.ensures.unfinished refl))
