use Rattle.std.proofs.Common.{◌≡◌, length, take, arith, ap, ◌∙◌, sym, subst}
use Rattle.std.proofs.lemmas.List.{length-take-le}
use Rattle.tree_lines.specs.declared.tree.Line.{Line}
use Rattle.std.specs.List.{position}
use Rattle.std.specs.Option.{IfNone, IfSome}
use Rattle.plain_editor.specs.Input.{lines_of, script_head}
use Rattle.serna_main.specs.Sections.{IsOpening, IsNoOpening}
use Rattle.serna_main.proofs.Replies.{bytes_of}
use Rattle.serna_main.proofs.Splitting.{bytes_of-numbered}
use Rattle.serna_main.proofs.Cuts.{is_line, found_at, refused_without_script, refused_opening, is_input}
use Rattle.serna_main.proofs.sections.judge.Goals as goal

pub returns-then-bytes-gt-MOST-clause-refused : goal.returns-then-bytes-gt-MOST-clause-refused
returns-then-bytes-gt-MOST-clause-refused c = λ sections is.
    let short = is.short in
    let long = c.if-bytes-gt-MOST.true in
    absurd (omega (arith, short, long))

pub returns-in-None-clause-refused : goal.returns-in-None-clause-refused
returns-in-None-clause-refused c =
    let lines : bytes_of c.in_ok-lines.lines.items ≡ lines_of c.args.bytes.now = ap bytes_of c.in_ok-lines.ensures ∙ bytes_of-numbered 1 (lines_of c.args.bytes.now) in
    refused_without_script c.args.bytes.now c.in_ok-lines.lines.items lines (c.in-None.ensures ∙ ap (position (λ (line : Line). is_line script_head line.bytes)) c.as_slice.ensures.value)

pub slice_bounds-opening_of-end : goal.slice_bounds-opening_of-end
slice_bounds-opening_of-end c =
    let at = found_at script_head c.in_ok-lines.lines.items c.in-Some.place (c.in-Some.ensures ∙ ap (position (λ (line : Line). is_line script_head line.bytes)) c.as_slice.ensures.value) in
    let within = at.1 in
    let size : length c.deref.result.now ≡ length c.in_ok-lines.lines.items = ap length c.deref.ensures.value in
    sym (length-take-le c.in-Some.place c.deref.result.now (omega (arith, within, size)))

pub returns-in-None-2-clause-refused : goal.returns-in-None-2-clause-refused
returns-in-None-2-clause-refused c =
    let lines : bytes_of c.in_ok-lines.lines.items ≡ lines_of c.args.bytes.now = ap bytes_of c.in_ok-lines.ensures ∙ bytes_of-numbered 1 (lines_of c.args.bytes.now) in
    let none : IsNoOpening (bytes_of (take c.in-Some.place c.deref.result.now)) =
    subst (λ o. IfNone o (IsNoOpening (bytes_of (take c.in-Some.place c.deref.result.now)))) c.in-None-2.is c.in_ok-opening_of.ensures.none in
    refused_opening c.args.bytes.now c.in_ok-lines.lines.items c.in-Some.place lines (c.in-Some.ensures ∙ ap (position (λ (line : Line). is_line script_head line.bytes)) c.as_slice.ensures.value)
    (subst (λ ls. IsNoOpening (bytes_of (take c.in-Some.place ls))) c.deref.ensures.value none)

pub returns-in-Some-2-clause-accepted : goal.returns-in-Some-2-clause-accepted
returns-in-Some-2-clause-accepted c =
    let lines : bytes_of c.in_ok-lines.lines.items ≡ lines_of c.args.bytes.now = ap bytes_of c.in_ok-lines.ensures ∙ bytes_of-numbered 1 (lines_of c.args.bytes.now) in
    let place = c.in-Some.ensures ∙ ap (position (λ (line : Line). is_line script_head line.bytes)) c.as_slice.ensures.value in
    let at = found_at script_head c.in_ok-lines.lines.items c.in-Some.place place in
    let within = at.1 in
    let opening : IsOpening (bytes_of (take c.in-Some.place c.deref.result.now)) c.in-Some-2.field-0 =
    subst (λ o. IfSome o (IsOpening (bytes_of (take c.in-Some.place c.deref.result.now)))) c.in-Some-2.is c.in_ok-opening_of.ensures.begun in
    let found : IsOpening (bytes_of (take c.in-Some.place c.in_ok-lines.lines.items)) c.in-Some-2.field-0 =
    subst (λ ls. IsOpening (bytes_of (take c.in-Some.place ls)) c.in-Some-2.field-0) c.deref.ensures.value opening in
    record {
      is-input = is_input c.args.bytes.now c.in_ok-lines.lines.items c.in-Some.place lines place c.if-bytes-gt-MOST.false c.in-Some-2.field-0 found;
      within = omega (arith, within);
      proper = found.proper;
    }
