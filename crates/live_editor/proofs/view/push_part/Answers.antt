use Rattle.std.proofs.Common.{◌≡◌, ◌+◌, [], ◌++◌, length, sym, ap, ◌∙◌, subst, arith, length-append}
use Rattle.std.proofs.lemmas.List.{nil_from_length}
use Rattle.std.specs.Char.{encode_utf8}
use Rattle.std.specs.Str.{chars, IsUtf8}
use Rattle.std.specs.Str.Iter.{char_indices_rest, char_indices_offset}
use Rattle.std.specs.declared.str.CharIndices.{CharIndices}
use Rattle.result_origin.specs.declared.origin.Origin.{Origin}
use Rattle.result_origin.specs.declared.pages.Run.{Run}
use Rattle.result_origin.specs.Pages.{PartValue, shown_bytes}
use Rattle.plain_editor.specs.Stops.{behind_start}
use Rattle.live_editor.specs.Shown.{boundaries_of, HasRoom}
use Rattle.live_editor.proofs.BegunRun.{begun_none, begun_more, begun_all, length-more, boundaries_of-more}
use Rattle.live_editor.proofs.RoomThere.{room_there}
use Rattle.live_editor.proofs.view.push_part.Goals as goal

pub loop-at-init : goal.loop-at-init
loop-at-init c =
    let part : PartValue = c.args.part.now in
    let at_start : char_indices_offset c.into_iter-at-iterator.result ≡ 0 = cc in
    let rest : char_indices_rest c.into_iter-at-iterator.result ≡ c.text-text.result.now = cc in
    let whole : char_indices_rest c.into_iter-at-iterator.result ≡ shown_bytes part = rest ∙ c.text-text.ensures in
    record {
      can_next = omega (arith, at_start, ap length rest);
      is_finite = tt;
      within = c.requires.within;
      sizes = omega (arith, at_start, ap length whole);
      begun = begun_none c.args.page c.args.line part.run.origin (shown_bytes part) c.args.column part.start (boundaries_of c.args.boundaries.now.items) _ _ (subst IsUtf8 c.text-text.ensures c.text-text.utf8)
          (omega (arith, at_start)) whole;
    }

pub overflow_add-start : goal.overflow_add-start
overflow_add-start c =
    let start : c.start-start.result ≡ 0 = c.start-start.ensures ∙ c.requires.start.0 in
    let here : c.in-Some.at ≡ char_indices_offset c.loop-at.at-iterator = c.in-Some.ensures.steps.0 in
    omega (arith, start, here, c.loop-at.invariant.sizes, ap length c.text-text.ensures)

pub behind_start-requires : goal.behind_start-requires
behind_start-requires c =
    let start : c.start-start.result ≡ 0 = c.start-start.ensures ∙ c.requires.start.0 in
    let here : c.in-Some.at ≡ char_indices_offset c.loop-at.at-iterator = c.in-Some.ensures.steps.0 in
    subst (HasRoom (c.start-start.result + c.in-Some.at)) (sym (ap (λ (r : Run). r.origin) c.run.ensures))
    (room_there c.args.part.now.run.origin (c.start-start.result + c.in-Some.at) c.requires.start.1 (omega (arith, start, here, c.loop-at.invariant.sizes, ap length c.text-text.ensures)))

pub overflow_add-start-2 : goal.overflow_add-start-2
overflow_add-start-2 c = let start : c.start-start.result ≡ 0 = c.start-start.ensures ∙ c.requires.start.0 in omega (arith, start)

pub behind_start-requires-2 : goal.behind_start-requires-2
behind_start-requires-2 c =
    let start : c.start-start.result ≡ 0 = c.start-start.ensures ∙ c.requires.start.0 in
    subst (HasRoom (c.start-start.result + length c.text-text.result.now)) (sym (ap (λ (r : Run). r.origin) c.run.ensures))
    (room_there c.args.part.now.run.origin (c.start-start.result + length c.text-text.result.now) c.requires.start.1 (omega (arith, start)))

pub loop-at-preserved : goal.loop-at-preserved
loop-at-preserved c =
    let part : PartValue = c.args.part.now in
    let from : Origin = part.run.origin in
    let before : CharIndices = c.loop-at.at-iterator in
    let item = c.in-Some.field-0-1 in
    let rest : char_indices_rest before ≡ encode_utf8 item ++ char_indices_rest c.next.new.self = c.in-Some.ensures.steps.1 in
    let next : char_indices_offset c.next.new.self ≡ char_indices_offset before + length (encode_utf8 item) = c.in-Some.ensures.steps.2 in
    let here : c.behind_start.result ≡ behind_start (part.start + char_indices_offset before) from =
    c.behind_start.ensures ∙ ap (λ (r : Run). behind_start (c.start-start.result + c.in-Some.at) r.origin) c.run.ensures ∙ ap (λ n. behind_start n from) (let a = c.start-start.ensures in let b = c.in-Some.ensures.steps.0 in omega (arith, a, b)) in
    let sizes : char_indices_offset c.next.new.self + length (char_indices_rest c.next.new.self) ≡ length (shown_bytes part) =
    omega (arith, c.loop-at.invariant.sizes, next, ap length rest, length-append (encode_utf8 item) (char_indices_rest c.next.new.self)) in
    record {
      can_next = omega (arith, sizes, ap length c.text-text.ensures);
      is_finite = tt;
      within = omega (arith, c.loop-at.invariant.within, length-more _ _ _ c.in_ok-push.ensures.items);
      sizes = sizes;
      begun = begun_more c.args.page c.args.line from (chars (shown_bytes part)) c.args.column part.start (boundaries_of c.args.boundaries.now.items) c.loop-at.column (part.start + char_indices_offset before) _ _
          (boundaries_of c.loop-at.boundaries.items) item _ _ c.loop-at.invariant.begun rest (omega (arith, next))
          (boundaries_of-more c.loop-at.boundaries.items c.push.new.self.items c.args.page c.args.line c.loop-at.column (part.start + char_indices_offset before) c.behind_start.result from c.in_ok-push.ensures.items here);
    }

pub returns-clause-boundaries : goal.returns-clause-boundaries
returns-clause-boundaries c =
    let part : PartValue = c.args.part.now in
    let from : Origin = part.run.origin in
    let here : CharIndices = c.loop-at.at-iterator in
    let empty : char_indices_rest here ≡ [] = nil_from_length (char_indices_rest here) c.in-None.ensures.steps.0 in
    let all = begun_all c.args.page c.args.line from (chars (shown_bytes part)) c.args.column part.start (boundaries_of c.args.boundaries.now.items) c.loop-at.column (part.start + char_indices_offset here)
    (char_indices_rest here) (boundaries_of c.loop-at.boundaries.items) c.loop-at.invariant.begun empty in
    let end : c.start-start.result + length c.text-text.result.now ≡ part.start + char_indices_offset here =
    omega (arith, c.start-start.ensures, c.loop-at.invariant.sizes, ap length empty, ap length c.text-text.ensures) in
    let last : c.behind_start-2.result ≡ behind_start (part.start + char_indices_offset here) from =
    c.behind_start-2.ensures ∙ ap (λ (r : Run). behind_start (c.start-start.result + length c.text-text.result.now) r.origin) c.run.ensures ∙ ap (λ n. behind_start n from) end in
    boundaries_of-more c.loop-at.boundaries.items c.push-2.new.self.items c.args.page c.args.line c.loop-at.column (part.start + char_indices_offset here) c.behind_start-2.result from
    c.in_ok-push-2.ensures.items last ∙ all.0

pub returns-clause-column : goal.returns-clause-column
returns-clause-column c =
    let part : PartValue = c.args.part.now in
    let here : CharIndices = c.loop-at.at-iterator in
    let empty : char_indices_rest here ≡ [] = nil_from_length (char_indices_rest here) c.in-None.ensures.steps.0 in
    (begun_all c.args.page c.args.line part.run.origin (chars (shown_bytes part)) c.args.column part.start (boundaries_of c.args.boundaries.now.items) c.loop-at.column (part.start + char_indices_offset here)
    (char_indices_rest here) (boundaries_of c.loop-at.boundaries.items) c.loop-at.invariant.begun empty).1
