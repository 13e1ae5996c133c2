-- What typing does may be applied.
use Rattle.std.proofs.Common.{◌≡◌, ℕ, ◌+◌, ◌<◌, inl, inr, List, [], ◌∷◌, refl, ap, arith}
use Rattle.std.proofs.lemmas.Bool.{cases_eq}
use Rattle.serna_kinds.specs.Limits.{node_limit}
use Rattle.source_model.specs.Source.{Body, Root, Element, Text, Comment, Forest, none, node, Source}
use Rattle.source_model.specs.Changes.{inserted_at}
use Rattle.source_model.specs.Proper.{uses, depth_of}
use Rattle.source_model.specs.Consistent.{AreLeaves, AreShort, IsLinked}
use Rattle.source_primitives.specs.declared.primitive.Primitive.{Primitive}
use Rattle.source_primitives.specs.declared.primitive.Primitive.TheVariants.{InsertText, RemoveText, InsertChild, RemoveChild, SetAttr, RemoveAttr, PutAttr}
use Rattle.source_primitives.specs.declared.primitive.SubItem.{SubItem}
use Rattle.source_primitives.specs.declared.primitive.SubItem.TheVariants as item
use Rattle.source_primitives.specs.Primitives.{HasPlace, IsNewLeaf, IsSubtree, items_of, MayApply, MayType}
use Rattle.source_primitives.proofs.Around.{below, count_same, count_other, depth_of-plug}
use Rattle.source_primitives.proofs.Inside.{inside, kids_changed, whole, element_spot}
use Rattle.source_primitives.proofs.Leaves.{IsLeafBody, depth_of-inserted_at}

-- a new leaf is a subtree that may be put in
leaf_subtree : (s : Source) (c : IsLinked s) (n place m : ℕ) (b : Body) (items : List SubItem) → HasPlace s n place → IsLeafBody b → m ≡ s.made + 1 → s.made < node_limit →
    items ≡ items_of (node m b none none) → AreLeaves (node m b none none) → AreShort (node m b none none) → IsSubtree s n place items
leaf_subtree s c n place m b items has leaf number room is leaves short =
    let at = element_spot s n has.0 has.1 has.2 in
    let more : Forest = node m b none none in
    let spot = at.there in
    let low = c.few in
    let inner = inside s c.top c.rooted c.distinct n (record { up = at.up; body = Element at.name at.pairs; kids = has.0.kids }) spot (λ bad. cc) in
    let f : Forest = node n (Element at.name at.pairs) has.0.kids inner.found.rest in
    let g : Forest = node n (Element at.name at.pairs) (inserted_at place more has.0.kids) inner.found.rest in
    let was = ap depth_of (whole s c.top n (record { up = at.up; body = Element at.name at.pairs; kids = has.0.kids }) c.rooted inner) in
    let now = ap depth_of (kids_changed s c.top n (record { up = at.up; body = Element at.name at.pairs; kids = has.0.kids }) (inserted_at place more) c.rooted inner) in
    let deeper = depth_of-inserted_at place m b has.0.kids leaf in
    let level = depth_of-plug (below 0 Root inner.found.around none) f g (omega (arith, deeper)) in
    let shallow = c.shallow in
    record {
      one = more;
      single = refl;
      leaves = leaves;
      is = is;
      short = short;
      distinct = λ k. elim (cases_eq k m) [
        | inl same ↦
            let own = count_same k m same in
            let once = c.distinct k in
            elim (cases_eq (uses k s.tree) 0) [
              | inl nowhere ↦ omega (arith, own, nowhere)
              | inr somewhere ↦ let within = c.numbered k (omega (arith, somewhere)) in absurd (omega (arith, within, same, number))
            ]
        | inr other ↦ let own = count_other k m other in let once = c.distinct k in omega (arith, own, once)
      ];
      next = λ k past within. let same : k ≡ m = omega (arith, past, within, number) in let own = count_same k m same in omega (arith, own);
      few = omega (arith, number, room, low);
      shallow = omega (arith, was, now, level, shallow);
    }

child_may : (s : Source) (c : IsLinked s) (n place : ℕ) (items : List SubItem) → HasPlace s n place → IsNewLeaf s.made items → s.made < node_limit → IsSubtree s n place items
child_may s c n place [] has new room = absurd new
child_may s c n place (item.Begin number name attributes ∷ items) has new room = absurd new
child_may s c n place (item.Text number text ∷ items) has new room =
    leaf_subtree s c n place number.0 (Text text) (item.Text number text ∷ items) has tt new.0 room (ap (λ more. item.Text number text ∷ more) new.2) (refl, tt) (new.1, tt, tt)
child_may s c n place (item.Comment number text ∷ items) has new room =
    leaf_subtree s c n place number.0 (Comment text) (item.Comment number text ∷ items) has tt new.0 room (ap (λ more. item.Comment number text ∷ more) new.1) (refl, tt) (tt, tt)
child_may s c n place (item.Finish ∷ items) has new room = absurd new

pub may_apply : (s : Source) (prim : Primitive) → IsLinked s → MayType prim s → MayApply prim s
may_apply s (InsertText n at piece) c may = may
may_apply s (RemoveText n from to) c may = absurd may
may_apply s (InsertChild n place items) c may = (may.0, child_may s c n.0 place items may.0 may.1 may.2)
may_apply s (RemoveChild n place) c may = absurd may
may_apply s (SetAttr n name value) c may = absurd may
may_apply s (RemoveAttr n name) c may = absurd may
may_apply s (PutAttr n place name value) c may = absurd may
