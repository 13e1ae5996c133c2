use Rattle.std.proofs.Common.{◌≡◌, ℕ, suc, List, [], ◌∷◌, Some, refl, sym, ap, ◌∙◌, subst}
use Rattle.std.specs.Cmp.{nat_cmp_total}
use Rattle.std.specs.List.{AllByRecursion}
use Rattle.std.specs.FinMap.{empty, insert, get-insert}
use Rattle.result_origin.specs.Parts.{ResultPart, holes}
use Rattle.result_origin.specs.Assembled.{Ends}
use Rattle.result_origin.specs.Stored.{Stored, kept}
use Rattle.result_origin.proofs.EndsLemmas.{ends_from_holes}
use Rattle.result_origin.proofs.tests.stored.Goals as goal

abbrev three : List (ResultPart ℕ) → List (ResultPart ℕ) → List (ResultPart ℕ) → Stored
three outer inner again = insert (insert (insert empty 1 outer) 2 inner) 3 again

three_end : (outer inner again : List (ResultPart ℕ)) → holes outer ≡ 2 ∷ 2 ∷ 3 ∷ [] → holes inner ≡ [] → holes again ≡ 2 ∷ [] → (n : ℕ) → Ends (kept (three outer inner again)) (suc (suc (suc n))) 1
three_end outer inner again o i a n =
    let first : Stored = insert empty 1 outer in
    let second : Stored = insert first 2 inner in
    let k = kept (three outer inner again) in
    let at_1 : k 1 ≡ Some outer = get-insert nat_cmp_total second 3 again 1 ∙ (get-insert nat_cmp_total first 2 inner 1 ∙ get-insert nat_cmp_total empty 1 outer 1) in
    let at_2 : k 2 ≡ Some inner = get-insert nat_cmp_total second 3 again 2 ∙ get-insert nat_cmp_total first 2 inner 2 in
    let at_3 : k 3 ≡ Some again = get-insert nat_cmp_total second 3 again 3 in
    let end_2 = λ (m : ℕ). ends_from_holes k m 2 inner at_2 (subst (AllByRecursion (Ends k m)) (sym i) tt) in
    let end_3 = ends_from_holes k (suc n) 3 again at_3 (subst (AllByRecursion (Ends k (suc n))) (sym a) (end_2 n, tt)) in
    ends_from_holes k (suc (suc n)) 1 outer at_1 (subst (AllByRecursion (Ends k (suc (suc n)))) (sym o) (end_2 (suc n), (end_2 (suc n), (end_3, tt))))

pub returns : goal.returns
returns c =
    let made : c.put-3.new.self.stored ≡ three c.in_ok-outer.field-0 c.in_ok-inner.field-0 c.in_ok-again.field-0 =
    c.in_ok-put-3.ensures.ok
    ∙ ap (λ (m : Stored). insert m 3 c.in_ok-again.field-0)
    (c.in_ok-put-2.ensures.ok ∙ ap (λ (m : Stored). insert m 2 c.in_ok-inner.field-0) (c.in_ok-put.ensures.ok ∙ ap (λ (m : Stored). insert m 1 c.in_ok-outer.field-0) c.new-all.ensures)) in
    subst (λ (m : Stored). Ends (kept m) 201 1) (sym made)
    (three_end c.in_ok-outer.field-0 c.in_ok-inner.field-0 c.in_ok-again.field-0 c.in_ok-outer.ensures c.in_ok-inner.ensures c.in_ok-again.ensures 198)
