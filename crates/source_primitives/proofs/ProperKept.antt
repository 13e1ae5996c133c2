-- What a prim leaves of a proper source is proper.
use Rattle.std.proofs.Common.{◌≡◌, ℕ, ◌+◌, ◌<◌, ◌==◌, inl, inr, Bool, true, false, List, [], ◌∷◌, length, Option, Some, encode_utf8_all, if◌then◌else◌, ap, ◌∙◌, subst, arith}
use Rattle.std.proofs.lemmas.Bool.{cases_eq, false≢true}
use Rattle.serna_kinds.specs.Limits.{node_limit}
use Rattle.serna_kinds.specs.Names.{NameParts}
use Rattle.source_model.specs.Source.{Body, Root, Element, Text, Comment, Forest, none, node, Source}
use Rattle.source_model.specs.Cells.{Spot, spot_of}
use Rattle.source_model.specs.Changes.{with_characters, with_text, with_kids, inserted_at}
use Rattle.source_model.specs.Proper.{uses, depth_of, AreNodes, IsTop, IsProper}
use Rattle.serna_kinds.specs.Texts.{inserted}
use Rattle.source_primitives.specs.declared.primitive.Primitive.{Primitive}
use Rattle.source_primitives.specs.declared.primitive.Primitive.TheVariants.{InsertText, RemoveText, InsertChild, RemoveChild, SetAttr, RemoveAttr, PutAttr}
use Rattle.source_primitives.specs.declared.primitive.SubItem.{SubItem}
use Rattle.source_primitives.specs.declared.primitive.SubItem.TheVariants as item
use Rattle.source_primitives.specs.Primitives.{applied, with_tree, with_nodes, MayType, KeepsProper, HasRoom, HasPlace, IsNewLeaf}
use Rattle.source_primitives.proofs.Around.{Around, below, plug, count_other, uses-plug, depth_of-plug, AreNodes-plug, IsTop-plug, with_body-root, with_kids-root}
use Rattle.source_primitives.proofs.Leaves.{still_some, still_short, IsLeafBody, depth_of-inserted_at, uses-inserted_at, once_more}
use Rattle.source_primitives.proofs.Inside.{Below, inside, spot_text, element_body}
use Rattle.serna_kinds.specs.declared.cells.NameId.{NameId}
use Rattle.serna_kinds.specs.declared.cells.NodeName.{NodeName}
use Rattle.serna_kinds.specs.declared.cells.AttrPair.{AttrPair}

pub below_top : (names : List NameParts) (s : Source) (p : IsProper names s) (n : ℕ) (spot : Spot) → spot_of s n ≡ Some spot → (spot.body ≡ Root → ⊥) → Below s p.top n spot
below_top names s p n spot e inner = inside s p.top p.rooted p.distinct n spot e inner

-- a source in which one node was changed, with as many numbers as before
text_kept : (names : List NameParts) (s : Source) (n place : ℕ) (piece : List ℕ) → IsProper names s → HasRoom s n place (length (encode_utf8_all piece)) →
    IsProper names (with_tree s (with_text n (inserted place piece) s.tree))
text_kept names s n place piece p room =
    let text : List ℕ = room.0 in
    let at = spot_text s n text room.1 in
    let spot : Spot = record { up = at.0; body = Text text; kids = at.1 } in
    let b : Below s p.top n spot = below_top names s p n spot at.2 (λ bad. cc) in
    let a : Around = b.found.around in
    let f : Forest = node n (Text text) at.1 b.found.rest in
    let g : Forest = node n (Text (inserted place piece text)) at.1 b.found.rest in
    let was : s.tree ≡ node 0 Root (plug a f) none = p.rooted ∙ ap (λ t. node 0 Root t none) b.found.whole in
    let is : with_text n (inserted place piece) s.tree ≡ node 0 Root (plug a g) none =
    ap (with_text n (inserted place piece)) p.rooted ∙ with_body-root n (with_characters (inserted place piece)) p.top b.other ∙ ap (λ u. node 0 Root u none) (b.found.body (with_characters (inserted place piece))) in
    let same : (k : ℕ) → uses k (with_text n (inserted place piece) s.tree) ≡ uses k s.tree = λ k.
    (let h = uses-plug k (below 0 Root a none) f g in
    let one = ap (uses k) is in
    let two = ap (uses k) was in
    omega (arith, h, one, two)) in
    let deep = depth_of-plug (below 0 Root a none) f g (omega arith) in
    let old_depth = ap depth_of was in
    let new_depth = ap depth_of is in
    let shallow = p.shallow in
    record {
      top = plug a g;
      rooted = is;
      outermost = IsTop-plug a f g (λ h. h) (λ h. h) (subst IsTop b.found.whole p.outermost);
      nodes = AreNodes-plug names a f g (λ bad. cc) (λ h. h) (λ h. (still_some text piece place room.2 h.0, still_short text piece place room.2 room.3, h.2, h.3, h.4)) (subst (AreNodes names) b.found.whole p.nodes);
      distinct = λ k. (let h = same k in let i = p.distinct k in omega (arith, h, i));
      numbered = λ k used. (let h = same k in p.numbered k (omega (arith, used, h)));
      few = p.few;
      shallow = omega (arith, deep, old_depth, new_depth, shallow);
    }

-- a source with a new text or comment
leaf_kept : (names : List NameParts) (s : Source) (n place m : ℕ) (b : Body) (up : Option ℕ) (name : NameId) (attributes : List AttrPair) (kids : Forest) → IsProper names s →
    spot_of s n ≡ Some (record { up = up; body = Element name attributes; kids = kids }) → m ≡ s.made + 1 → s.made < node_limit → IsLeafBody b → AreNodes names (inserted_at place (node m b none none) kids) →
    IsProper names (with_nodes s n place (node m b none none))
leaf_kept names s n place m b up name attributes kids p is-spot number room leaf_is kids_are =
    let more : Forest = node m b none none in
    let spot : Spot = record { up = up; body = Element name attributes; kids = kids } in
    let at : Below s p.top n spot = below_top names s p n spot is-spot (λ bad. cc) in
    let a : Around = at.found.around in
    let f : Forest = node n (Element name attributes) kids at.found.rest in
    let g : Forest = node n (Element name attributes) (inserted_at place more kids) at.found.rest in
    let was : s.tree ≡ node 0 Root (plug a f) none = p.rooted ∙ ap (λ t. node 0 Root t none) at.found.whole in
    let is : with_kids n (inserted_at place more) s.tree ≡ node 0 Root (plug a g) none =
    ap (with_kids n (inserted_at place more)) p.rooted ∙ with_kids-root n (inserted_at place more) p.top at.other ∙ ap (λ u. node 0 Root u none) (at.found.kids (inserted_at place more)) in
    let uses_more : (k : ℕ) → uses k (with_kids n (inserted_at place more) s.tree) ≡ uses k s.tree + (if k == m then 1 else 0) = λ k.
    (let h = uses-plug k (below 0 Root a none) f g in
    let i = uses-inserted_at k place m b kids in
    let one = ap (uses k) is in
    let two = ap (uses k) was in
    omega (arith, h, i, one, two)) in
    let deeper = depth_of-inserted_at place m b kids leaf_is in
    let deep = depth_of-plug (below 0 Root a none) f g (omega (arith, deeper)) in
    let old_depth = ap depth_of was in
    let new_depth = ap depth_of is in
    let shallow = p.shallow in
    let few = p.few in
    record {
      top = plug a g;
      rooted = is;
      outermost = IsTop-plug a f g (λ h. h) (λ h. h) (subst IsTop at.found.whole p.outermost);
      nodes = AreNodes-plug names a f g (λ bad. cc) (λ h. h) (λ h. (h.0, h.1, kids_are, h.3)) (subst (AreNodes names) at.found.whole p.nodes);
      distinct = λ k. once_more k m (uses k s.tree) (uses k (with_kids n (inserted_at place more) s.tree)) (uses_more k) (p.distinct k)
          (λ same. elim (cases_eq (uses k s.tree) 0) [
            | inl nowhere ↦ nowhere
            | inr somewhere ↦ let within = p.numbered k (omega (arith, somewhere)) in absurd (omega (arith, within, same, number))
          ]);
      numbered = λ k used. elim (cases_eq k m) [
        | inl same ↦ omega (arith, same)
        | inr other ↦
            let own = count_other k m other in
            let h = uses_more k in
            let within = p.numbered k (omega (arith, used, h, own)) in
            omega (arith, within)
      ];
      few = omega (arith, number, room, few);
      shallow = omega (arith, deep, old_depth, new_depth, shallow);
    }

child_kept : (names : List NameParts) (s : Source) (n place m : ℕ) (b : Body) → IsProper names s → (has : HasPlace s n place) → m ≡ s.made + 1 → s.made < node_limit → IsLeafBody b →
    ((spot : Spot) → spot_of s n ≡ Some spot → AreNodes names (inserted_at place (node m b none none) spot.kids)) → IsProper names (with_nodes s n place (node m b none none))
child_kept names s n place m b p has number room leaf_is keeps =
    let e = element_body has.0.body has.2 in
    leaf_kept names s n place m b has.0.up e.0 e.1 has.0.kids p (has.1 ∙ ap (λ body. Some (record { up = has.0.up; body = body; kids = has.0.kids })) e.2) number room leaf_is (keeps has.0 has.1)

abbrev pub are_none : List SubItem → Bool
are_none [] = true
are_none (x ∷ items) = false

pub some_items : (x : SubItem) (items : List SubItem) → x ∷ items ≡ [] → ⊥
some_items x items e = false≢true (ap are_none e)

insert_kept : (names : List NameParts) (s : Source) (n : NodeName) (place : ℕ) (items : List SubItem) → IsProper names s → HasPlace s n.0 place → IsNewLeaf s.made items → s.made < node_limit →
    KeepsProper names (InsertChild n place items) s → IsProper names (applied (InsertChild n place items) s)
insert_kept names s n place [] p has new room keeps = absurd new
insert_kept names s n place (item.Begin number name attributes ∷ items) p has new room keeps = absurd new
insert_kept names s n place (item.Text number t ∷ []) p has new room keeps = child_kept names s n.0 place number.0 (Text t) p has new.0 room tt keeps
insert_kept names s n place (item.Text number t ∷ x ∷ items) p has new room keeps = absurd (some_items x items new.2)
insert_kept names s n place (item.Comment number t ∷ []) p has new room keeps = child_kept names s n.0 place number.0 (Comment t) p has new.0 room tt keeps
insert_kept names s n place (item.Comment number t ∷ x ∷ items) p has new room keeps = absurd (some_items x items new.1)
insert_kept names s n place (item.Finish ∷ items) p has new room keeps = absurd new

pub proper_kept : (names : List NameParts) (s : Source) (prim : Primitive) → IsProper names s → MayType prim s → KeepsProper names prim s → IsProper names (applied prim s)
proper_kept names s (InsertText n place piece) p may keeps = text_kept names s n.0 place piece p may
proper_kept names s (RemoveText n from to) p may keeps = absurd may
proper_kept names s (InsertChild n place items) p may keeps = insert_kept names s n place items p may.0 may.1 may.2 keeps
proper_kept names s (RemoveChild n place) p may keeps = absurd may
proper_kept names s (SetAttr n name value) p may keeps = absurd may
proper_kept names s (RemoveAttr n name) p may keeps = absurd may
proper_kept names s (PutAttr n place name value) p may keeps = absurd may

pub ruleset proper = proper_kept
