use Rattle.std.proofs.Common.{◌≡◌, ◌<◌, ℕ, rules, List, [], ◌∷◌, ◌++◌, Contains, slice_get, map, length, take, get_or, refl, sym, ap, ◌∙◌, subst, arith}
use Rattle.std.proofs.lemmas.Result.{on_ok_weaker}
use Rattle.std.proofs.lemmas.List.{append-nil, take_all, length-append}
use Rattle.std.proofs.lemmas.List.Elements.{Contains-get_or}
use Rattle.serna_kinds.specs.Names.{NameParts}
use Rattle.result_origin.specs.Parts.{ResultPart, said, holes, numbered, filled}
use Rattle.result_origin.specs.Items.{part_of}
use Rattle.result_origin.specs.declared.items.Item.{Item}
use Rattle.instance_store.specs.declared.request.Asked.{Asked}
use Rattle.template_run.specs.Filled.{filling}
use Rattle.template_run.proofs.SeenLemmas.{sees_earlier}
use Rattle.template_run.proofs.FillLemmas.{whole_filled, taken_at, taken_all, item_part, as_many, past_mark, past_hole, no_hole}
use Rattle.template_run.proofs.AskedLemmas.{asks_frag}
use Rattle.template_run.proofs.batch.Transformation.+instances.Goals as goal

abbrev Pieces : Type 0
Pieces = List (ResultPart ℕ) × List Asked

pub add_instance-returns-in_err-instance-clause-within : goal.add_instance-returns-in_err-instance-clause-within
add_instance-returns-in_err-instance-clause-within g t c allowed table source sees keeps are may = c.instance.ensures.within allowed may

pub add_instance-returns-clause-before : goal.add_instance-returns-clause-before
add_instance-returns-clause-before g t c other agrees = c.instance.ensures.before other (c.fill.ensures.before other agrees)

pub add_instance-returns-clause-value : goal.add_instance-returns-clause-value
add_instance-returns-clause-value g t c =
    on_ok_weaker c.fill.result
    (λ added table source sees keeps.
    added table source sees keeps
    ∙ ap (λ ms. c.args.out.now ++ said ms)
    (ap (filled (filling table c.args.self.now.style.now c.args.left source))
    (c.in_ok-instance.ensures.value table source c.args.place
    (sees_earlier c.args.self.now.names.now c.instance.new.tape.cells c.fill.new.tape.cells (g.V.SourceView.cells c.args.self.now.view.now) table source c.fill.ensures.before sees) keeps (λ read. refl))
    ∙ whole_filled table c.args.self.now.style.now c.args.left c.args.request.now c.args.place source))
    c.fill.ensures.value

pub add_instance-returns-clause-within : goal.add_instance-returns-clause-within
add_instance-returns-clause-within g t c allowed table source sees keeps are may old =
    let same =
    c.in_ok-instance.ensures.value table source c.args.place
    (sees_earlier c.args.self.now.names.now c.instance.new.tape.cells c.fill.new.tape.cells (g.V.SourceView.cells c.args.self.now.view.now) table source c.fill.ensures.before sees) keeps (λ read. refl) in
    c.fill.ensures.within allowed table source sees keeps are
    (λ asked inside.
    asks_frag allowed source are table c.args.self.now.style.now c.args.left c.args.request.now c.args.place asked
    (subst (λ (ps : List (ResultPart Asked)). Contains (holes ps) asked) same inside))
    (c.instance.ensures.within allowed may old)

pub fill-returns-in_err-fill_hole-in-Hole-clause-before : goal.fill-returns-in_err-fill_hole-in-Hole-clause-before
fill-returns-in_err-fill_hole-in-Hole-clause-before g t c other agrees = c.loop-item.invariant.0 other (c.fill_hole.ensures.before other agrees)

pub fill-returns-in_err-fill_hole-in-Hole-clause-within : goal.fill-returns-in_err-fill_hole-in-Hole-clause-within
fill-returns-in_err-fill_hole-in-Hole-clause-within g t c allowed table source sees keeps are may old =
    let earlier = sees_earlier c.args.self.now.names.now c.loop-item.tape.cells c.fill_hole.new.tape.cells (g.V.SourceView.cells c.args.self.now.view.now) table source c.fill_hole.ensures.before sees in
    c.fill_hole.ensures.within allowed table source sees keeps are
    (λ one inside. may one (subst (λ (ones : List Asked). Contains ones one) (c.as_slice.ensures ∙ ap (λ (p : Pieces). p.1) c.into_parts-fragment.ensures) inside))
    (c.loop-item.invariant.3 allowed table source earlier keeps are may old)

pub fill-loop-item-preserved : goal.fill-loop-item-preserved
fill-loop-item-preserved g t c =
    let parts : List (ResultPart Asked) = c.args.instance in
    let items : List Item = c.into_items-item-items.result.items in
    let taken : List Item = c.loop-item.yielded in
    let one : Item = c.in-Some.item in
    let same : map part_of items ≡ numbered 0 parts = c.into_items-item-items.ensures ∙ ap (λ (p : Pieces). p.0) c.into_parts-fragment.ensures in
    let at =
    taken_at c.into_iter-item-iterator.result c.loop-item.item-iterator c.next.new.self items taken one c.into_iter-item-iterator.ensures.into_iter_gives.0 c.loop-item.yielded_by c.in-Some.ensures.steps in
    let within : length taken < length parts = omega (arith, as_many items parts same, at.0) in
    let here = item_part items (length taken) one (numbered 0 parts) at.0 at.1 same in (
      c.loop-item.invariant.0,
      c.loop-item.invariant.1,
      λ table source sees keeps.
          let fill = filling table c.args.self.now.style.now c.args.left source in
          past_mark fill parts (length taken) c.args.out.now c.loop-item.out c.push.new.self within (c.loop-item.invariant.2 table source sees keeps) (part_of one) here
          (no_hole one c.in_default.not-Hole) (c.in_ok-push-in_default.ensures.ok)
          ∙ ap (λ (n : ℕ). c.args.out.now ++ said (filled fill (take n parts))) (sym (length-append taken (one ∷ []))),
      c.loop-item.invariant.3,
    )

pub fill-loop-item-preserved-in-Continue-1 : goal.fill-loop-item-preserved-in-Continue-1
fill-loop-item-preserved-in-Continue-1 g t c =
    let view = g.V.SourceView.cells c.args.self.now.view.now in
    let names : List NameParts = c.args.self.now.names.now in
    let parts : List (ResultPart Asked) = c.args.instance in
    let items : List Item = c.into_items-item-items.result.items in
    let taken : List Item = c.loop-item.yielded in
    let one : Item = c.in-Some.item in
    let same : map part_of items ≡ numbered 0 parts = c.into_items-item-items.ensures ∙ ap (λ (p : Pieces). p.0) c.into_parts-fragment.ensures in
    let at =
    taken_at c.into_iter-item-iterator.result c.loop-item.item-iterator c.next.new.self items taken one c.into_iter-item-iterator.ensures.into_iter_gives.0 c.loop-item.yielded_by c.in-Some.ensures.steps in
    let within : length taken < length parts = omega (arith, as_many items parts same, at.0) in
    let here = item_part items (length taken) one (numbered 0 parts) at.0 at.1 same in
    let asks : c.as_slice.result.now ≡ holes parts = c.as_slice.ensures ∙ ap (λ (p : Pieces). p.1) c.into_parts-fragment.ensures in (
      λ other agrees. c.loop-item.invariant.0 other (c.fill_hole.ensures.before other agrees),
      c.fill_hole.ensures.place ∙ c.loop-item.invariant.1,
      λ table source sees keeps.
          let fill = filling table c.args.self.now.style.now c.args.left source in
          let earlier = sees_earlier names c.loop-item.tape.cells c.fill_hole.new.tape.cells view table source c.fill_hole.ensures.before sees in
          past_hole fill parts (length taken) c.args.out.now c.loop-item.out c.fill_hole.new.out within (c.loop-item.invariant.2 table source earlier keeps) c.in-Hole.hole
          (subst (λ (it : Item). part_of it ≡ get_or (numbered 0 parts) (length taken) (part_of it)) c.in-Hole.is here)
          (λ asked there. c.in_ok-fill_hole-in-Hole.ensures.value table source asked sees keeps (ap (λ (ones : List Asked). slice_get ones c.in-Hole.hole) asks ∙ there))
          ∙ ap (λ (n : ℕ). c.args.out.now ++ said (filled fill (take n parts))) (sym (length-append taken (one ∷ []))),
      λ allowed table source sees keeps are may old.
          let earlier = sees_earlier names c.loop-item.tape.cells c.fill_hole.new.tape.cells view table source c.fill_hole.ensures.before sees in
          c.fill_hole.ensures.within allowed table source sees keeps are (λ asked inside. may asked (subst (λ (ones : List Asked). Contains ones asked) asks inside))
          (c.loop-item.invariant.3 allowed table source earlier keeps are may old),
    )

pub fill-returns-clause-value : goal.fill-returns-clause-value
fill-returns-clause-value g t c table source sees keeps =
    let parts : List (ResultPart Asked) = c.args.instance in
    let items : List Item = c.into_items-item-items.result.items in
    let gives = c.into_iter-item-iterator.ensures.into_iter_gives in
    let many = as_many items parts (c.into_items-item-items.ensures ∙ ap (λ (p : Pieces). p.0) c.into_parts-fragment.ensures) in
    let all =
    taken_all c.into_iter-item-iterator.result c.loop-item.item-iterator c.next.new.self items c.loop-item.yielded (gives.1 ∙ c.into_items-item-items.result.ok.0) c.loop-item.yielded_by
    c.in-None.ensures.steps in
    c.loop-item.invariant.2 table source sees keeps
    ∙ ap (λ (ps : List (ResultPart Asked)). c.args.out.now ++ said (filled (filling table c.args.self.now.style.now c.args.left source) ps))
    (take_all (length c.loop-item.yielded) parts (omega (arith, many, all)))

pub fill_hole-returns-in-None-clause-value : goal.fill_hole-returns-in-None-clause-value
fill_hole-returns-in-None-clause-value g t c table source one sees keeps there =
    let none : c.args.left ≡ 0 = search rules in
    sym (append-nil c.args.out.now)
    ∙ ap (λ (n : ℕ). c.args.out.now ++ said (filling table c.args.self.now.style.now n source one)) (sym none)

pub fill_hole-returns-in-Some-checked_sub-clause-within : goal.fill_hole-returns-in-Some-checked_sub-clause-within
fill_hole-returns-in-Some-checked_sub-clause-within g t c allowed table source sees keeps are may =
    let inside : c.args.hole < length c.args.asked.now = search rules in
    c.add_instance.ensures.within allowed table source sees keeps are
    (may c.in-Some.one.now (subst (Contains c.args.asked.now) (sym c.in-Some.ensures.lookup.1) (Contains-get_or c.args.asked.now c.args.hole _ inside)))
