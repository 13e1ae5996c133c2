-- The rules are sorted, a greater one before a lesser one.
use Rattle.std.proofs.Common.{◌≡◌, List, ◌++◌, map, take, rules, sym, ap, ◌∙◌, subst, take_all}
use Rattle.std.proofs.lemmas.List.Sorted.{answers_always}
use Rattle.std.specs.List.Sorted.{IsPermutation, IsSortedBy}
use Rattle.style_sheet.specs.declared.style.Rule.{Rule}
use Rattle.style_sheet.specs.Order.{is_less, AreGreatestFirst}
use Rattle.style_sheet.proofs.Ordered.{greater-ranks, greatest-from_sorted}
use Rattle.style_sheet.proofs.order.greatest_first.Goals as goal

pub returns : goal.returns
returns c =
    let answers = answers_always _ _ _ (λ f a r g called. search rules) in
    let up = c.in_ok-sort_by.ensures.sorted (λ (x y : Rule). is_less y x) greater-ranks answers in
    let sorted = c.deref-rule-items.result.now in
    let all : take c.loop-rule.rule-index sorted ≡ sorted = take_all _ _ c.loop-rule-test.false in
    let is : c.loop-rule.order ≡ map (λ (r : Rule). r.place) sorted = c.loop-rule.invariant ∙ ap (map (λ (r : Rule). r.place)) all in
    let copied : c.extend_from_slice.new.self.items ≡ c.args.rules.now =
    c.in_ok-extend_from_slice.ensures.items ∙ ap (λ (xs : List Rule). xs ++ c.args.rules.now) c.in_ok-sorted.ensures.items in
    let moved : IsPermutation c.args.rules.now sorted =
    subst (λ (xs : List Rule). IsPermutation xs sorted) copied
    (subst (IsPermutation c.extend_from_slice.new.self.items)
    (sym c.deref-rule-items.ensures.value) c.in_ok-sort_by.ensures.permutation) in
    let rising : IsSortedBy (λ (x y : Rule). is_less y x) sorted =
    subst (IsSortedBy (λ (x y : Rule). is_less y x)) (sym c.deref-rule-items.ensures.value) up in
    subst (AreGreatestFirst c.args.rules.now) (sym is) (greatest-from_sorted c.args.rules.now sorted c.requires.places moved rising)
