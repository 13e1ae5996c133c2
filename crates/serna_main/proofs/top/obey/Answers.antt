use Rattle.std.proofs.Common.{◌≡◌, ◌-◌, List, length, take, drop, ap, ◌∙◌, sym, subst, refl, IsTrue}
use Rattle.std.proofs.lemmas.List.{take_rest}
use Rattle.tree_lines.specs.declared.tree.Line.{Line}
use Rattle.serna_outside.specs.Outside.{Appends}
use Rattle.plain_editor.specs.Editor.{opened, replies}
use Rattle.tree_lines.proofs.Faultless.{one_document}
use Rattle.serna_main.specs.declared.status.Status.TheVariants as status
use Rattle.serna_main.specs.declared.sections.Judged.{Judged}
use Rattle.page_print.specs.Outside.{AppendsFront}
use Rattle.plain_editor.specs.Sections.{Sections}
use Rattle.plain_editor.specs.Answers.{answers}
use Rattle.serna_main.specs.Endings.{IsClosed}
use Rattle.serna_main.specs.Sections.{sections_kept}
use Rattle.serna_main.proofs.Replies.{bytes_of}
use Rattle.serna_main.proofs.Answered.{front_accepted, answered_ok, answered_no_memory, answered_write_fault, not_finished}
use Rattle.serna_main.proofs.top.obey.Goals as goal

-- the replies to the code's script, under its stylesheet and from its source on, are those of the plain editor
said : (judged : Judged) (lines : List Line) → lines ≡ judged.lines.items →
    replies judged.style (opened judged.names judged.source.source) (bytes_of (take (length lines - judged.first) (drop judged.first lines))) ≡ answers (sections_kept judged)
said judged lines same =
    ap (λ ls. replies judged.style (opened judged.names judged.source.source) (bytes_of ls)) (take_rest lines judged.first ∙ ap (drop judged.first) same)

pub returns-in-Ok : goal.returns-in-Ok
returns-in-Ok g c = λ input j.
    let held = g.K.Sink.held in
    let faults = g.K.Sink.faults in
    let sections : Sections = sections_kept c.args.judged in
    let same = said c.args.judged c.deref.result.now c.deref.ensures.value in
    answered_ok one_document input sections (held c.args.sink.now) (held c.close.new.sink) (faults c.args.sink.now) (faults c.close.new.sink) (IsTrue (g.K.Sink.is_finished c.close.new.sink)) c.close.result j.is-input
    (subst (λ h. Appends (held c.args.sink.now) h (answers sections)) (sym c.close.ensures.held)
    (subst (Appends (held c.args.sink.now) (held c.run_script.new.sink)) same (c.in-Ok.ensures.ok refl)))
    c.close.ensures.finished (subst (λ f. IsClosed status.Ok c.close.result f (faults c.close.new.sink)) (c.in-Ok.ensures.kept refl) c.close.ensures.status)

pub returns-in-NoMemory : goal.returns-in-NoMemory
returns-in-NoMemory g c = λ input j.
    let held = g.K.Sink.held in
    let faults = g.K.Sink.faults in
    let sections : Sections = sections_kept c.args.judged in
    let same = said c.args.judged c.deref.result.now c.deref.ensures.value in
    let front : AppendsFront (held c.args.sink.now) (held c.close-in-NoMemory.new.sink) (answers sections) =
    subst (λ h. AppendsFront (held c.args.sink.now) h (answers sections)) (sym c.close-in-NoMemory.ensures.held)
    (subst (AppendsFront (held c.args.sink.now) (held c.run_script.new.sink)) same c.in-NoMemory.ensures.front) in
    answered_no_memory input (held c.args.sink.now) (held c.close-in-NoMemory.new.sink) (faults c.args.sink.now) (faults c.close-in-NoMemory.new.sink) (IsTrue (g.K.Sink.is_finished c.close-in-NoMemory.new.sink))
    c.close-in-NoMemory.result (front_accepted one_document input sections (held c.args.sink.now) (held c.close-in-NoMemory.new.sink) j.is-input front) c.close-in-NoMemory.ensures.finished c.close-in-NoMemory.ensures.status

pub returns-in-WriteFault : goal.returns-in-WriteFault
returns-in-WriteFault g c = λ input j.
    let held = g.K.Sink.held in
    let faults = g.K.Sink.faults in
    let sections : Sections = sections_kept c.args.judged in
    let same = said c.args.judged c.deref.result.now c.deref.ensures.value in
    let front : AppendsFront (held c.args.sink.now) (held c.run_script.new.sink) (answers sections) =
    subst (AppendsFront (held c.args.sink.now) (held c.run_script.new.sink)) same c.in-WriteFault.ensures.front in
    answered_write_fault input (held c.args.sink.now) (held c.run_script.new.sink) (faults c.args.sink.now) (faults c.run_script.new.sink) (IsTrue (g.K.Sink.is_finished c.run_script.new.sink))
    (front_accepted one_document input sections (held c.args.sink.now) (held c.run_script.new.sink) j.is-input front) (c.in-WriteFault.ensures.write_fault refl) (not_finished (g.K.Sink.is_finished c.run_script.new.sink) (c.in-WriteFault.ensures.unfinished refl))
