-- Primitives one after another: what they leave, and what takes them back.
use Rattle.std.proofs.Common.{◌≡◌, ℕ, ◌≤◌, List, [], ◌∷◌, ◌++◌, reverse, refl, sym, ap, ◌∙◌, subst, arith}
use Rattle.std.proofs.lemmas.List.{reverse-append}
use Rattle.std.proofs.lemmas.Grind.{fold-append}
use Rattle.std.specs.Prelude.{insert}
use Rattle.serna_kinds.specs.Texts.{inserted, removed}
use Rattle.source_model.specs.Source.{Forest, Source}
use Rattle.source_model.specs.Changes.{with_text, with_attributes, with_kids, inserted_at, removed_at}
use Rattle.source_model.specs.Attributes.{pair_of, with_value, without_name}
use Rattle.source_model.specs.Consistent.{IsLinked, IsConsistent}
use Rattle.source_primitives.specs.declared.primitive.Primitive.{Primitive}
use Rattle.source_primitives.specs.declared.primitive.Primitive.TheVariants.{InsertText, RemoveText, InsertChild, RemoveChild, SetAttr, RemoveAttr, PutAttr}
use Rattle.source_primitives.specs.declared.primitive.SubItem.{SubItem}
use Rattle.source_primitives.specs.Primitives.{HasPlace, IsSubtree, subtree, applied, applied_all, inverse, inverses, MayApply, MayApplyAll}
use Rattle.source_primitives.proofs.Undone.{undone_tree}
use Rattle.source_primitives.proofs.ConsistentKept.{linked_kept, consistent_kept}
use Rattle.source_primitives.proofs.MayUndo.{may_undo}

-- a primitive makes the same of a source with the same tree, and may be applied to it where at least as many numbers were made
pub later_tree : (prim : Primitive) (s t : Source) → s.tree ≡ t.tree → (applied prim s).tree ≡ (applied prim t).tree
later_tree (InsertText n at piece) s t e = ap (with_text n.0 (inserted at piece)) e
later_tree (RemoveText n from to) s t e = ap (with_text n.0 (removed from to)) e
later_tree (InsertChild n place items) s t e = ap (with_kids n.0 (inserted_at place (subtree items))) e
later_tree (RemoveChild n place) s t e = ap (with_kids n.0 (removed_at place)) e
later_tree (SetAttr n name value) s t e = ap (with_attributes n.0 (with_value name value)) e
later_tree (RemoveAttr n name) s t e = ap (with_attributes n.0 (without_name name)) e
later_tree (PutAttr n place name value) s t e = ap (with_attributes n.0 (λ pairs. insert pairs place (pair_of name value))) e

-- a source with another tree
abbrev planted : Source → Forest → Source
planted t tree = record { tree = tree; made = t.made; spaces = t.spaces }

subtree_later : (s t : Source) (parent place : ℕ) (items : List SubItem) → s.tree ≡ t.tree → s.made ≤ t.made → IsSubtree s parent place items → IsSubtree t parent place items
subtree_later s t parent place items e more is =
    let moved : IsSubtree (planted s t.tree) parent place items = subst (λ tree. IsSubtree (planted s tree) parent place items) e is in
    record {
      one = moved.one;
      single = moved.single;
      leaves = moved.leaves;
      is = moved.is;
      short = moved.short;
      distinct = moved.distinct;
      next = λ n past within. moved.next n (omega (arith, past, more)) within;
      few = moved.few;
      shallow = moved.shallow;
    }

pub later_may : (prim : Primitive) (s t : Source) → s.tree ≡ t.tree → s.made ≤ t.made → MayApply prim s → MayApply prim t
later_may (InsertText n at piece) s t e more may = subst (λ tree. MayApply (InsertText n at piece) (planted t tree)) e may
later_may (RemoveText n from to) s t e more may = subst (λ tree. MayApply (RemoveText n from to) (planted t tree)) e may
later_may (InsertChild n place items) s t e more may = (subst (λ tree. HasPlace (planted t tree) n.0 place) e may.0, subtree_later s t n.0 place items e more may.1)
later_may (RemoveChild n place) s t e more may = subst (λ tree. MayApply (RemoveChild n place) (planted t tree)) e may
later_may (SetAttr n name value) s t e more may = subst (λ tree. MayApply (SetAttr n name value) (planted t tree)) e may
later_may (RemoveAttr n name) s t e more may = subst (λ tree. MayApply (RemoveAttr n name) (planted t tree)) e may
later_may (PutAttr n place name value) s t e more may = subst (λ tree. MayApply (PutAttr n place name value) (planted t tree)) e may

-- the count of numbers ever made does not fall, and what is declared stays
pub made_more : (prim : Primitive) (s : Source) → s.made ≤ (applied prim s).made
made_more (InsertText n at piece) s = omega arith
made_more (RemoveText n from to) s = omega arith
made_more (InsertChild n place items) s = omega arith
made_more (RemoveChild n place) s = omega arith
made_more (SetAttr n name value) s = omega arith
made_more (RemoveAttr n name) s = omega arith
made_more (PutAttr n place name value) s = omega arith

pub made_more_all : (prims : List Primitive) (s : Source) → s.made ≤ (applied_all prims s).made
made_more_all [] s = omega arith
made_more_all (prim ∷ prims) s = let one = made_more prim s in let rest = made_more_all prims (applied prim s) in omega (arith, one, rest)

same_spaces : (prim : Primitive) (s : Source) → (applied prim s).spaces ≡ s.spaces
same_spaces (InsertText n at piece) s = refl
same_spaces (RemoveText n from to) s = refl
same_spaces (InsertChild n place items) s = refl
same_spaces (RemoveChild n place) s = refl
same_spaces (SetAttr n name value) s = refl
same_spaces (RemoveAttr n name) s = refl
same_spaces (PutAttr n place name value) s = refl

pub same_spaces_all : (prims : List Primitive) (s : Source) → (applied_all prims s).spaces ≡ s.spaces
same_spaces_all [] s = refl
same_spaces_all (prim ∷ prims) s = same_spaces_all prims (applied prim s) ∙ same_spaces prim s

pub linked_all : (s : Source) (prims : List Primitive) → IsLinked s → MayApplyAll prims s → IsLinked (applied_all prims s)
linked_all s [] c may = c
linked_all s (prim ∷ prims) c may = linked_all (applied prim s) prims (linked_kept s prim c may.0) may.1

pub consistent_all : (s : Source) (prims : List Primitive) → IsConsistent s → MayApplyAll prims s → IsConsistent (applied_all prims s)
consistent_all s [] c may = c
consistent_all s (prim ∷ prims) c may = consistent_all (applied prim s) prims (consistent_kept s prim c may.0) may.1

-- the last one that takes back goes first
last_first : (prim : Primitive) (prims : List Primitive) (s : Source) → reverse (inverses (prim ∷ prims) s) ≡ reverse (inverses prims (applied prim s)) ++ inverse prim s ∷ []
last_first prim prims s = reverse-append (inverse prim s ∷ []) (inverses prims (applied prim s))

applied_behind : (before : List Primitive) (last : Primitive) (s : Source) → applied_all (before ++ last ∷ []) s ≡ applied last (applied_all before s)
applied_behind before last s = fold-append (λ source prim. applied prim source) s before (last ∷ [])

pub undone_all : (s : Source) (prims : List Primitive) → IsLinked s → MayApplyAll prims s → (applied_all (reverse (inverses prims s)) (applied_all prims s)).tree ≡ s.tree
undone_all s [] c may = refl
undone_all s (prim ∷ prims) c may =
    let next : Source = applied prim s in
    let left : Source = applied_all prims next in
    let back : List Primitive = reverse (inverses prims next) in
    ap (λ qs. (applied_all qs left).tree) (last_first prim prims s)
    ∙ ap (λ (x : Source). x.tree) (applied_behind back (inverse prim s) left)
    ∙ later_tree (inverse prim s) (applied_all back left) next (undone_all next prims (linked_kept s prim c may.0) may.1)
    ∙ undone_tree s prim c may.0

may_behind : (before : List Primitive) (last : Primitive) (s : Source) → MayApplyAll before s → MayApply last (applied_all before s) → MayApplyAll (before ++ last ∷ []) s
may_behind [] last s all one = (one, tt)
may_behind (prim ∷ before) last s all one = (all.0, may_behind before last (applied prim s) all.1 one)

pub may_undo_all : (s : Source) (prims : List Primitive) → IsConsistent s → MayApplyAll prims s → MayApplyAll (reverse (inverses prims s)) (applied_all prims s)
may_undo_all s [] c may = tt
may_undo_all s (prim ∷ prims) c may =
    let next : Source = applied prim s in
    let left : Source = applied_all prims next in
    let back : List Primitive = reverse (inverses prims next) in
    let kept = consistent_kept s prim c may.0 in
    let one = made_more_all prims next in
    let two = made_more_all back left in
    let last : MayApply (inverse prim s) (applied_all back left) =
    later_may (inverse prim s) next (applied_all back left) (sym (undone_all next prims kept.linked may.1)) (omega (arith, one, two)) (may_undo s prim c may.0) in
    subst (λ qs. MayApplyAll qs left) (sym (last_first prim prims s)) (may_behind back (inverse prim s) left (may_undo_all next prims kept may.1) last)

pub undone_all_spaces : (s : Source) (prims : List Primitive) → (applied_all (reverse (inverses prims s)) (applied_all prims s)).spaces ≡ s.spaces
undone_all_spaces s prims = same_spaces_all (reverse (inverses prims s)) (applied_all prims s) ∙ same_spaces_all prims s

pub undone_all_made : (s : Source) (prims : List Primitive) → s.made ≤ (applied_all (reverse (inverses prims s)) (applied_all prims s)).made
undone_all_made s prims =
    let one = made_more_all prims s in
    let two = made_more_all (reverse (inverses prims s)) (applied_all prims s) in
    omega (arith, one, two)
