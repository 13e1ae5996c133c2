use Rattle.std.proofs.Common.{◌≡◌, ◌+◌, ℕ, List, take, drop, take_all, subst, sym, ◌∙◌, arith}
use Rattle.std.specs.String.{string_bytes}
use Rattle.serna_outside.specs.Outside.{Appends}
use Rattle.plain_editor.specs.Editor.{Editor, opened, replies}
use Rattle.page_print.specs.Outside.{AppendsFront}
use Rattle.page_print.proofs.Bytes.{front_then, appends_then}
use Rattle.serna_main.proofs.Replies.{bytes_of, after, answer, replies_next, replies_more, after_more, answer_at, step_at, front_so_far}
use Rattle.serna_main.proofs.run.run_script.Goals as goal

pub returns-clause-ok : goal.returns-clause-ok
returns-clause-ok g c = λ ended.
    let start : Editor = opened c.args.names c.args.source.source in
    subst (λ lines. Appends (g.K.Sink.held c.args.sink.now) (g.K.Sink.held c.commands.sink) (replies c.args.style.now start (bytes_of lines)))
    (take_all c.commands.line-index c.args.script.now (omega arith)) c.commands.invariant.written

pub returns-clause-front : goal.returns-clause-front
returns-clause-front g c = front_so_far c.args.style.now (opened c.args.names c.args.source.source) c.commands.line-index c.args.script.now (g.K.Sink.held c.args.sink.now) (g.K.Sink.held c.commands.sink) c.commands.invariant.written

pub returns-in_default-clause-front : goal.returns-in_default-clause-front
returns-in_default-clause-front g c = front_so_far c.args.style.now (opened c.args.names c.args.source.source) c.commands.line-index c.args.script.now (g.K.Sink.held c.args.sink.now) (g.K.Sink.held c.commands.sink) c.commands.invariant.written

pub returns-then-not-offer-clause-front : goal.returns-then-not-offer-clause-front
returns-then-not-offer-clause-front g c =
    let so_far : List (List ℕ) = bytes_of (take c.commands.line-index c.args.script.now) in
    let line : List ℕ = c.line-item.result.bytes in
    let reply : c.as_str.result.now ≡ answer c.args.style.now (after c.args.style.now (opened c.args.names c.args.source.source) so_far) line =
    answer_at c.args.style.now c.commands.editor (after c.args.style.now (opened c.args.names c.args.source.source) so_far) c.as_str.result.now (string_bytes c.in-Ok.text) c.as_slice.result.now line c.as_str.ensures.value c.in-Ok.ensures.answer c.as_slice.ensures c.commands.invariant.editor in
    front_then (g.K.Sink.held c.args.sink.now) (g.K.Sink.held c.commands.sink) (g.K.Sink.held c.offer.new.sink) (replies c.args.style.now (opened c.args.names c.args.source.source) so_far) (answer c.args.style.now (after c.args.style.now (opened c.args.names c.args.source.source) so_far) line)
    (replies c.args.style.now (after c.args.style.now (opened c.args.names c.args.source.source) (bytes_of (take (c.commands.line-index + 1) c.args.script.now))) (bytes_of (drop (c.commands.line-index + 1) c.args.script.now)))
    (replies c.args.style.now (opened c.args.names c.args.source.source) (bytes_of c.args.script.now))
    (replies_next c.args.style.now (opened c.args.names c.args.source.source) c.commands.line-index c.args.script.now c.line-item.result c.commands-test.true c.line-item.is) c.commands.invariant.written
    (subst (AppendsFront (g.K.Sink.held c.commands.sink) (g.K.Sink.held c.offer.new.sink)) reply c.offer.ensures.front)

pub commands-preserved : goal.commands-preserved
commands-preserved g c =
    let so_far : List (List ℕ) = bytes_of (take c.commands.line-index c.args.script.now) in
    let line : List ℕ = c.line-item.result.bytes in
    let at : Editor = after c.args.style.now (opened c.args.names c.args.source.source) so_far in
    let reply : c.as_str.result.now ≡ answer c.args.style.now at line =
    answer_at c.args.style.now c.commands.editor at c.as_str.result.now (string_bytes c.in-Ok.text) c.as_slice.result.now line c.as_str.ensures.value c.in-Ok.ensures.answer c.as_slice.ensures c.commands.invariant.editor in
    record {
      written = subst (Appends (g.K.Sink.held c.args.sink.now) (g.K.Sink.held c.offer.new.sink))
          (sym (replies_more c.args.style.now (opened c.args.names c.args.source.source) c.commands.line-index c.args.script.now c.line-item.result c.commands-test.true c.line-item.is))
          (appends_then (g.K.Sink.held c.args.sink.now) (g.K.Sink.held c.commands.sink) (g.K.Sink.held c.offer.new.sink) (replies c.args.style.now (opened c.args.names c.args.source.source) so_far) (answer c.args.style.now at line) c.commands.invariant.written
          (subst (Appends (g.K.Sink.held c.commands.sink) (g.K.Sink.held c.offer.new.sink)) reply (c.offer.ensures.written c.if-not-offer.false)));
      editor = step_at c.args.style.now c.commands.editor at c.obey.new.self c.as_slice.result.now line c.in-Ok.ensures.state c.as_slice.ensures c.commands.invariant.editor
          ∙ sym (after_more c.args.style.now (opened c.args.names c.args.source.source) c.commands.line-index c.args.script.now c.line-item.result c.commands-test.true c.line-item.is);
      faults = c.offer.ensures.kept c.if-not-offer.false ∙ c.commands.invariant.faults;
    }
