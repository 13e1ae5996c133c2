-- Primitives and changes do the same to a source and to the same source again.
use Rattle.std.proofs.Common.{◌≡◌, ◌≤◌, List, [], ◌∷◌, refl, sym, ap, ◌∙◌, arith}
use Rattle.source_model.specs.Source.{Forest, Source}
use Rattle.source_primitives.specs.declared.primitive.Primitive.{Primitive}
use Rattle.source_primitives.specs.declared.primitive.Primitive.TheVariants.{InsertText, RemoveText, InsertChild, RemoveChild, SetAttr, RemoveAttr, PutAttr}
use Rattle.source_primitives.specs.Primitives.{with_tree, applied, applied_all, inverse, inverses, MayApplyAll}
use Rattle.source_primitives.proofs.UndoneAll.{later_tree, later_may, same_spaces_all}
use Rattle.edit_undo.specs.declared.change.Change.{Change}
use Rattle.edit_undo.specs.Leads.{IsChangeOf, done_to, IsAgain, CanBeDone}

pub tree_all : (prims : List Primitive) (s t : Source) → s.tree ≡ t.tree → (applied_all prims s).tree ≡ (applied_all prims t).tree
tree_all [] s t e = e
tree_all (prim ∷ prims) s t e = tree_all prims (applied prim s) (applied prim t) (later_tree prim s t e)

made_one : (prim : Primitive) (s t : Source) → s.made ≤ t.made → (applied prim s).made ≤ (applied prim t).made
made_one (InsertText n at piece) s t more = more
made_one (RemoveText n from to) s t more = more
made_one (InsertChild n place items) s t more = omega (arith, more)
made_one (RemoveChild n place) s t more = more
made_one (SetAttr n name value) s t more = more
made_one (RemoveAttr n name) s t more = more
made_one (PutAttr n place name value) s t more = more

made_all : (prims : List Primitive) (s t : Source) → s.made ≤ t.made → (applied_all prims s).made ≤ (applied_all prims t).made
made_all [] s t more = more
made_all (prim ∷ prims) s t more = made_all prims (applied prim s) (applied prim t) (made_one prim s t more)

pub may_all : (prims : List Primitive) (s t : Source) → s.tree ≡ t.tree → s.made ≤ t.made → MayApplyAll prims s → MayApplyAll prims t
may_all [] s t e more may = tt
may_all (prim ∷ prims) s t e more may = (
  later_may prim s t e more may.0,
  may_all prims (applied prim s) (applied prim t) (later_tree prim s t e) (made_one prim s t more) may.1,
)

-- what takes a primitive back is told by the tree
inverse_one : (prim : Primitive) (s t : Source) → s.tree ≡ t.tree → inverse prim s ≡ inverse prim t
inverse_one (InsertText n at piece) s t e = refl
inverse_one (RemoveText n from to) s t e = ap (λ (tree : Forest). inverse (RemoveText n from to) (with_tree t tree)) e
inverse_one (InsertChild n place items) s t e = refl
inverse_one (RemoveChild n place) s t e = ap (λ (tree : Forest). inverse (RemoveChild n place) (with_tree t tree)) e
inverse_one (SetAttr n name value) s t e = ap (λ (tree : Forest). inverse (SetAttr n name value) (with_tree t tree)) e
inverse_one (RemoveAttr n name) s t e = ap (λ (tree : Forest). inverse (RemoveAttr n name) (with_tree t tree)) e
inverse_one (PutAttr n place name value) s t e = refl

inverses_all : (prims : List Primitive) (s t : Source) → s.tree ≡ t.tree → inverses prims s ≡ inverses prims t
inverses_all [] s t e = refl
inverses_all (prim ∷ prims) s t e = λ i. inverse_one prim s t e i ∷ inverses_all prims (applied prim s) (applied prim t) (later_tree prim s t e) i

pub again_self : (s : Source) → IsAgain s s
again_self s = record { tree = refl; spaces = refl; made = omega arith }

pub again_twice : (s t u : Source) → IsAgain s t → IsAgain t u → IsAgain s u
again_twice s t u one two = record { tree = two.tree ∙ one.tree; spaces = two.spaces ∙ one.spaces; made = let low = one.made in let high = two.made in omega (arith, low, high) }

pub done_again : (c : Change) (s t : Source) → IsAgain s t → IsAgain (done_to c s) (done_to c t)
done_again c s t again = record {
  tree = tree_all c.prims t s again.tree;
  spaces = same_spaces_all c.prims t ∙ again.spaces ∙ sym (same_spaces_all c.prims s);
  made = made_all c.prims s t again.made;
}

pub change_again : (c : Change) (s t : Source) → IsAgain s t → IsChangeOf c s → IsChangeOf c t
change_again c s t again is = record {
  may = may_all c.prims s t (sym again.tree) again.made is.may;
  back = is.back ∙ inverses_all c.prims s t (sym again.tree);
}

pub can_again : (changes : List Change) (s t : Source) → IsAgain s t → CanBeDone changes s → CanBeDone changes t
can_again [] s t again can = tt
can_again (c ∷ changes) s t again can = (change_again c s t again can.0, can_again changes (done_to c s) (done_to c t) (done_again c s t again) can.1)
