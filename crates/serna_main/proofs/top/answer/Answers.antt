use Rattle.std.proofs.Common.{sym, subst, IfSome, IsTrue}
use Rattle.std.specs.Option.{IfNone}
use Rattle.plain_editor.proofs.Steps.{opened_sound}
use Rattle.serna_main.specs.Out.{IsRefused}
use Rattle.page_print.specs.Outside.{AppendsFront}
use Rattle.serna_main.specs.Sections.{IsJudged}
use Rattle.page_print.proofs.Bytes.{front_none}
use Rattle.serna_main.proofs.Answered.{answered_no_memory}
use Rattle.serna_main.proofs.top.answer.Goals as goal

pub obey-requires : goal.obey-requires
obey-requires g c =
    let j : IsJudged c.args.input.now c.in-Ok-Some.judged = subst (λ o. IfSome o (IsJudged c.args.input.now)) c.in-Ok-Some.field-0-is c.in-Ok-Some.ensures.accepted in
    record { within = j.within; sound = opened_sound c.in-Ok-Some.judged.names c.in-Ok-Some.judged.source.source j.proper }

pub returns-in-Err : goal.returns-in-Err
returns-in-Err g c =
    answered_no_memory c.args.input.now (g.K.Sink.held c.args.sink.now) (g.K.Sink.held c.close.new.sink) (g.K.Sink.faults c.args.sink.now) (g.K.Sink.faults c.close.new.sink) (IsTrue (g.K.Sink.is_finished c.close.new.sink))
    c.close.result (λ bytes other out. subst (λ h. AppendsFront (g.K.Sink.held c.args.sink.now) h bytes) (sym c.close.ensures.held) (front_none (g.K.Sink.held c.args.sink.now) bytes)) c.close.ensures.finished c.close.ensures.status

pub returns-in-Ok-None : goal.returns-in-Ok-None
returns-in-Ok-None g c =
    c.refuse.ensures c.args.input.now (subst (λ o. IfNone o (IsRefused c.args.input.now)) c.in-Ok-None.field-0-is c.in-Ok-None.ensures.refused)

pub returns-in-Ok-Some : goal.returns-in-Ok-Some
returns-in-Ok-Some g c =
    c.obey.ensures c.args.input.now (subst (λ o. IfSome o (IsJudged c.args.input.now)) c.in-Ok-Some.field-0-is c.in-Ok-Some.ensures.accepted)
