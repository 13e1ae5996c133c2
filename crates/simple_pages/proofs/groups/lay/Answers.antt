use Rattle.std.proofs.Common.{◌+◌, List, ℕ, map, drop, sym, ap, ◌∙◌, arith}
use Rattle.std.proofs.lemmas.List.{drop_all}
use Rattle.result_origin.specs.declared.items.Item.{Item}
use Rattle.result_origin.specs.Parts.{ResultPart, marks_in}
use Rattle.result_origin.specs.Items.{part_of}
use Rattle.result_origin.proofs.ItemLemmas.{left_parts}
use Rattle.simple_pages.specs.Laying.{finished_with}
use Rattle.simple_pages.proofs.Closing.{past_item, at_end}
use Rattle.simple_pages.proofs.groups.lay.Goals as goal

pub loop-item-preserved : goal.loop-item-preserved
loop-item-preserved c =
    let left = left_parts c.args.items.now c.loop-item.item-index c.item-item.result (omega arith) c.item-item.is in
    past_item _ _ _ _ _ (c.in_ok-step.ensures (map part_of (drop (c.loop-item.item-index + 1) c.args.items.now))) c.if-not-branch.false
    (ap (λ (ps : List (ResultPart ℕ)). finished_with c.loop-item.laying (marks_in ps)) (sym left) ∙ c.loop-item.invariant)

pub returns-then-not-branch : goal.returns-then-not-branch
returns-then-not-branch c =
    let left = left_parts c.args.items.now c.loop-item.item-index c.item-item.result (omega arith) c.item-item.is in
    at_end _ _ _ _ _ (c.in_ok-step.ensures (map part_of (drop (c.loop-item.item-index + 1) c.args.items.now))) c.if-not-branch.true
    (ap (λ (ps : List (ResultPart ℕ)). finished_with c.loop-item.laying (marks_in ps)) (sym left) ∙ c.loop-item.invariant)

pub returns : goal.returns
returns c =
    ap (λ (items : List Item). finished_with c.loop-item.laying (marks_in (map part_of items))) (sym (drop_all c.loop-item.item-index c.args.items.now c.loop-item-test.false))
    ∙ c.loop-item.invariant
