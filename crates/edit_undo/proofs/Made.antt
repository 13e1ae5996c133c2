-- To take a change back and to make it again makes no number: all that come in were made before.
use Rattle.std.proofs.Common.{◌≡◌, ℕ, ◌≤◌, max, List, [], ◌∷◌, ◌++◌, reverse, Option, Some, None, refl, ap, ◌∙◌, arith}
use Rattle.std.proofs.lemmas.List.{reverse-append}
use Rattle.std.proofs.lemmas.Grind.{fold-append}
use Rattle.std.specs.Option.{option_map_or}
use Rattle.serna_kinds.specs.declared.cells.NameId.{NameId}
use Rattle.serna_kinds.specs.declared.cells.NodeName.{NodeName}
use Rattle.source_model.specs.Source.{Element, Forest, Source}
use Rattle.source_model.specs.Cells.{Spot}
use Rattle.source_model.specs.Changes.{pairs_at, alone_at, greatest}
use Rattle.source_model.specs.Attributes.{value_among}
use Rattle.source_model.specs.Consistent.{IsLinked}
use Rattle.source_primitives.specs.declared.primitive.Primitive.{Primitive}
use Rattle.source_primitives.specs.declared.primitive.Primitive.TheVariants.{InsertText, RemoveText, InsertChild, RemoveChild, SetAttr, RemoveAttr, PutAttr}
use Rattle.source_primitives.specs.Primitives.{subtree, items_of, old_value, applied, applied_all, inverse, inverses, MayApply, MayApplyAll}
use Rattle.source_primitives.proofs.Inside.{element_spot}
use Rattle.source_primitives.proofs.Subtrees.{leaves_alone, subtree-items_of, uses_alone, greatest_least}
use Rattle.source_primitives.proofs.Undone.{leaves_under}
use Rattle.source_primitives.proofs.ConsistentKept.{uses_under, linked_kept}
use Rattle.source_primitives.proofs.UndoneAll.{made_more, made_more_all}

-- the greatest number that a primitive puts in
abbrev put_in : Primitive → ℕ
put_in (InsertText n at piece) = 0
put_in (RemoveText n from to) = 0
put_in (InsertChild n place items) = greatest (subtree items)
put_in (RemoveChild n place) = 0
put_in (SetAttr n name value) = 0
put_in (RemoveAttr n name) = 0
put_in (PutAttr n place name value) = 0

made_is : (prim : Primitive) (s : Source) → (applied prim s).made ≡ max s.made (put_in prim)
made_is (InsertText n at piece) s = omega arith
made_is (RemoveText n from to) s = omega arith
made_is (InsertChild n place items) s = refl
made_is (RemoveChild n place) s = omega arith
made_is (SetAttr n name value) s = omega arith
made_is (RemoveAttr n name) s = omega arith
made_is (PutAttr n place name value) s = omega arith

-- what takes a primitive back puts in no number that was not made
old_value_none : (n : NodeName) (name : NameId) (o : Option (List ℕ)) → put_in (old_value n name o) ≡ 0
old_value_none n name None = refl
old_value_none n name (Some value) = refl

child_made : (s : Source) (c : IsLinked s) (n : NodeName) (place : ℕ) → MayApply (RemoveChild n place) s → put_in (inverse (RemoveChild n place) s) ≤ s.made
child_made s c n place may =
    let at = element_spot s n.0 may.0 may.1 may.2 in
    let kids : Forest = may.0.kids in
    let one : Forest = alone_at place kids in
    let spot : Spot = record { up = at.up; body = Element at.name at.pairs; kids = kids } in
    let leaves = leaves_alone place kids (leaves_under s c n.0 spot at.there (λ bad. cc)) in
    let is : put_in (inverse (RemoveChild n place) s) ≡ greatest one =
    ap (λ o. greatest (subtree (option_map_or (λ (x : Spot). items_of (alone_at place x.kids)) o []))) at.there ∙ ap greatest (subtree-items_of one leaves) in
    let low : greatest one ≤ s.made = greatest_least s.made one
    (λ k used. let part = uses_alone k place kids in let inner = uses_under s c n.0 kids at k in c.numbered k (omega (arith, used, part, inner))) in
    omega (arith, is, low)

inverse_made : (prim : Primitive) (s : Source) → IsLinked s → MayApply prim s → put_in (inverse prim s) ≤ s.made
inverse_made (InsertText n at piece) s c may = omega arith
inverse_made (RemoveText n from to) s c may = omega arith
inverse_made (InsertChild n place items) s c may = omega arith
inverse_made (RemoveChild n place) s c may = child_made s c n place may
inverse_made (SetAttr n name value) s c may = let none = old_value_none n name (value_among name (pairs_at s n.0)) in omega (arith, none)
inverse_made (RemoveAttr n name) s c may = omega arith
inverse_made (PutAttr n place name value) s c may = omega arith

-- the last one that takes back goes first
last_first : (prim : Primitive) (prims : List Primitive) (s : Source) → reverse (inverses (prim ∷ prims) s) ≡ reverse (inverses prims (applied prim s)) ++ inverse prim s ∷ []
last_first prim prims s = reverse-append (inverse prim s ∷ []) (inverses prims (applied prim s))

applied_behind : (before : List Primitive) (last : Primitive) (s : Source) → applied_all (before ++ last ∷ []) s ≡ applied last (applied_all before s)
applied_behind before last s = fold-append (λ source prim. applied prim source) s before (last ∷ [])

pub made_undone : (prims : List Primitive) (s t : Source) → IsLinked s → MayApplyAll prims s → (applied_all prims s).made ≤ t.made →
    (applied_all (reverse (inverses prims s)) t).made ≡ t.made
made_undone [] s t c may more = refl
made_undone (prim ∷ prims) s t c may more =
    let next : Source = applied prim s in
    let back : List Primitive = reverse (inverses prims next) in
    let rest : (applied_all back t).made ≡ t.made = made_undone prims next t (linked_kept s prim c may.0) may.1 more in
    let low = inverse_made prim s c may.0 in
    let one = made_more prim s in
    let all = made_more_all prims next in
    let last = made_is (inverse prim s) (applied_all back t) in
    ap (λ qs. (applied_all qs t).made) (last_first prim prims s)
    ∙ ap (λ (x : Source). x.made) (applied_behind back (inverse prim s) t)
    ∙ omega (arith, last, rest, low, one, all, more)

pub made_again : (prims : List Primitive) (s t : Source) → (applied_all prims s).made ≤ t.made → (applied_all prims t).made ≡ t.made
made_again [] s t more = refl
made_again (prim ∷ prims) s t more =
    let here = made_is prim s in
    let there = made_is prim t in
    let all = made_more_all prims (applied prim s) in
    let same : (applied prim t).made ≡ t.made = omega (arith, here, there, all, more) in
    made_again prims (applied prim s) (applied prim t) (omega (arith, same, more)) ∙ same
