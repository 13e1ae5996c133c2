-- What takes a primitive back may be applied to what the primitive leaves.
use Rattle.std.proofs.Common.{◌≡◌, ℕ, ◌+◌, ◌<◌, ◌≤◌, List, [], ◌++◌, length, Option, Some, None, encode_utf8_all, refl, sym, ap, ◌∙◌, subst, arith, append_assoc, length-append}
use Rattle.std.proofs.lemmas.Str.{encodes-append}
use Rattle.std.specs.Option.{option_map_or, option_and_then}
use Rattle.std.specs.Prelude.{insert, IsSome, unwrap_or}
use Rattle.serna_kinds.specs.declared.cells.NameId.{NameId}
use Rattle.serna_kinds.specs.declared.cells.NodeName.{NodeName}
use Rattle.serna_kinds.specs.declared.cells.AttrPair.{AttrPair}
use Rattle.serna_kinds.specs.Texts.{IsPlaceIn, upto, past, inserted, removed}
use Rattle.serna_kinds.proofs.TextLemmas.{inserted-at, upto-before, past-before}
use Rattle.source_model.specs.Source.{Element, Text, Forest, node, Source, numbers}
use Rattle.source_model.specs.Cells.{Spot, spot_of}
use Rattle.source_model.specs.Changes.{characters, text_at, pairs_at, between, with_characters, with_pairs, with_text, with_attributes, with_kids, inserted_at, removed_at, alone_at, greatest}
use Rattle.source_model.specs.Attributes.{pairs_of, pair_of, value_among, place_among, with_value, without_name}
use Rattle.source_model.specs.Proper.{uses, depth_of}
use Rattle.source_model.specs.Consistent.{AreShort, IsLinked, IsConsistent}
use Rattle.source_model.proofs.Pairs.{value_set, value_put, gone, place-within, short_value}
use Rattle.source_primitives.specs.declared.primitive.Primitive.{Primitive}
use Rattle.source_primitives.specs.declared.primitive.Primitive.TheVariants.{InsertText, RemoveText, InsertChild, RemoveChild, SetAttr, RemoveAttr, PutAttr}
use Rattle.source_primitives.specs.Primitives.{HasElement, HasRoom, IsSubtree, subtree, items_of, with_tree, old_value, applied, inverse, MayApply}
use Rattle.source_primitives.proofs.Inside.{inside, body_changed, kids_changed, spot_after, AreShort-at, spot_text, ElementAt, element_spot}
use Rattle.source_primitives.proofs.Subtrees.{leaves_alone, single_alone, short_alone, uses_alone, more_children, fewer_children, child_back, greatest_least}
use Rattle.source_primitives.proofs.Undone.{put_back, kids_undone, at_spot, subtree_one, leaves_under, out_items, has_value}
use Rattle.source_primitives.proofs.ConsistentKept.{more_bytes, short_text, pairs_are, uses_changed, uses_under, linked_kept}

-- the text of a number with its characters changed
text_after : (s : Source) (c : IsLinked s) (n : ℕ) (text : List ℕ) (change : List ℕ → List ℕ) → text_at s n ≡ Some text → uses n (with_text n change s.tree) ≤ 1 →
    text_at (with_tree s (with_text n change s.tree)) n ≡ Some (change text)
text_after s c n text change there once =
    let at = spot_text s n text there in
    let spot : Spot = record { up = at.0; body = Text text; kids = at.1 } in
    let b = inside s c.top c.rooted c.distinct n spot at.2 (λ bad. cc) in
    let is = spot_after (with_text n change s.tree) b.found.around n (Text (change text)) at.1 b.found.rest (body_changed s c.top n spot (with_characters change) c.rooted b) once in
    ap (option_and_then (λ (x : Spot). characters x.body)) is.1

-- the element of a number with its attributes changed
record PairsAfter (s : Source) (n : ℕ) (pairs : List AttrPair) : Type 0 where
  has : HasElement s n
  are : pairs_at s n ≡ pairs

pairs_after : (s : Source) (c : IsLinked s) (n : ℕ) (kids : Forest) (at : ElementAt s n kids) (change : List AttrPair → List AttrPair) → uses n (with_attributes n change s.tree) ≤ 1 →
    PairsAfter (with_tree s (with_attributes n change s.tree)) n (change at.pairs)
pairs_after s c n kids at change once =
    let spot : Spot = record { up = at.up; body = Element at.name at.pairs; kids = kids } in
    let b = inside s c.top c.rooted c.distinct n spot at.there (λ bad. cc) in
    let is = spot_after (with_attributes n change s.tree) b.found.around n (Element at.name (change at.pairs)) kids b.found.rest (body_changed s c.top n spot (with_pairs change) c.rooted b) once in
    record {
      has = (record { up = is.0; body = Element at.name (change at.pairs); kids = kids }, is.1, tt);
      are = ap (λ o. option_map_or (λ (x : Spot). pairs_of x.body) o []) is.1;
    }

-- the element of a number with its children changed
element_after : (s : Source) (c : IsLinked s) (n made : ℕ) (kids : Forest) (at : ElementAt s n kids) (change : Forest → Forest) → uses n (with_kids n change s.tree) ≤ 1 →
    (up : Option ℕ) × (spot_of (record { tree = with_kids n change s.tree; made = made; spaces = s.spaces }) n ≡ Some (record { up = up; body = Element at.name at.pairs; kids = change kids }))
element_after s c n made kids at change once =
    let spot : Spot = record { up = at.up; body = Element at.name at.pairs; kids = kids } in
    let b = inside s c.top c.rooted c.distinct n spot at.there (λ bad. cc) in
    spot_after (with_kids n change s.tree) b.found.around n (Element at.name at.pairs) (change kids) b.found.rest (kids_changed s c.top n spot change c.rooted b) once

-- the places at both ends of what was put in, and the one at which something was taken out
starts : (text piece : List ℕ) (at : ℕ) → IsPlaceIn text at → IsPlaceIn (inserted at piece text) at
starts text piece at p = record { before = p.before; behind = piece ++ p.behind; whole = inserted-at text piece at p; place = p.place }

ends : (text piece : List ℕ) (at : ℕ) → IsPlaceIn text at → IsPlaceIn (inserted at piece text) (at + length (encode_utf8_all piece))
ends text piece at p =
    let bytes = ap length (encodes-append p.before piece) in
    let sum = length-append (encode_utf8_all p.before) (encode_utf8_all piece) in
    let here = p.place in
    record {
      before = p.before ++ piece;
      behind = p.behind;
      whole = inserted-at text piece at p ∙ sym (append_assoc p.before piece p.behind);
      place = omega (arith, bytes, sum, here);
    }

cut : (text : List ℕ) (from to : ℕ) → IsPlaceIn text from → IsPlaceIn text to → IsPlaceIn (removed from to text) from
cut text from to p q =
    let first : upto from text ≡ p.before = ap (upto from) p.whole ∙ upto-before p.before p.behind from p.place in
    let last : past to text ≡ q.behind = ap (past to) q.whole ∙ past-before q.before q.behind to q.place in
    record { before = p.before; behind = q.behind; whole = ap (λ t. t ++ past to text) first ∙ ap (λ t. p.before ++ t) last; place = p.place }

may_insert : (s : Source) (c : IsConsistent s) (n : NodeName) (from to : ℕ) (text : List ℕ) → text_at s n.0 ≡ Some text → IsPlaceIn text from → IsPlaceIn text to → from ≤ to →
    uses n.0 (with_text n.0 (removed from to) s.tree) ≤ 1 → MayApply (inverse (RemoveText n from to) s) (applied (RemoveText n from to) s)
may_insert s c n from to text there p q within once =
    let piece : List ℕ = between from to text in
    let left : List ℕ = removed from to text in
    let is : option_map_or (between from to) (text_at s n.0) [] ≡ piece = ap (λ o. option_map_or (between from to) o []) there in
    let short = short_text s c n.0 text there in
    let both = more_bytes left piece from (cut text from to p q) in
    let back = ap (λ t. length (encode_utf8_all t)) (put_back text from to p within) in
    subst (λ t. HasRoom (applied (RemoveText n from to) s) n.0 from (length (encode_utf8_all t))) (sym is)
    (left, text_after s c.linked n.0 text (removed from to) there once, cut text from to p q, omega (arith, short, both, back))

-- the value that stood there before is short, and one that was put in is found
may_set_old : (s : Source) (c : IsConsistent s) (n : NodeName) (name : NameId) (value : List ℕ) (kids : Forest) (at : ElementAt s n.0 kids) (o : Option (List ℕ)) → value_among name at.pairs ≡ o →
    uses n.0 (with_attributes n.0 (with_value name value) s.tree) ≤ 1 → MayApply (old_value n name o) (applied (SetAttr n name value) s)
may_set_old s c n name value kids at None e once =
    let h = pairs_after s c.linked n.0 kids at (with_value name value) once in
    (h.has, subst (λ pairs. IsSome (value_among name pairs)) (sym h.are) (subst IsSome (sym (value_set name value at.pairs)) refl))
may_set_old s c n name value kids at (Some old) e once =
    let h = pairs_after s c.linked n.0 kids at (with_value name value) once in
    (h.has, short_value name old at.pairs (pairs_are s c n.0 kids at).1 e)

may_put : (s : Source) (c : IsConsistent s) (n : NodeName) (name : NameId) (value : List ℕ) (kids : Forest) (at : ElementAt s n.0 kids) → value_among name at.pairs ≡ Some value →
    uses n.0 (with_attributes n.0 (without_name name) s.tree) ≤ 1 → MayApply (inverse (RemoveAttr n name) s) (applied (RemoveAttr n name) s)
may_put s c n name value kids at e once =
    let h = pairs_after s c.linked n.0 kids at (without_name name) once in
    let are = pairs_are s c n.0 kids at in
    let absent = ap (value_among name) h.are ∙ gone name at.pairs are.0 in
    let within = subst (λ pairs. place_among name at.pairs ≤ length pairs) (sym h.are) (place-within name at.pairs value e) in
    let short = short_value name value at.pairs are.1 e in
    subst (λ pairs. MayApply (PutAttr n (place_among name pairs) name (unwrap_or (value_among name pairs) [])) (applied (RemoveAttr n name) s)) (sym at.are)
    (subst (λ o. MayApply (PutAttr n (place_among name at.pairs) name (unwrap_or o [])) (applied (RemoveAttr n name) s)) (sym e) (h.has, absent, within, short))

-- a child that was taken out may be put in again
child_again : (s : Source) (c : IsConsistent s) (n : NodeName) (place : ℕ) (kids : Forest) (at : ElementAt s n.0 kids) → place < length (numbers kids) →
    IsSubtree (applied (RemoveChild n place) s) n.0 place (items_of (alone_at place kids))
child_again s c n place kids at within =
    let spot : Spot = record { up = at.up; body = Element at.name at.pairs; kids = kids } in
    let one : Forest = alone_at place kids in
    let l = c.linked in
    let b = inside s l.top l.rooted l.distinct n.0 spot at.there (λ bad. cc) in
    let short : AreShort kids = (AreShort-at b.found.around (node n.0 spot.body kids b.found.rest) (subst AreShort b.found.whole c.short)).1 in
    let low : greatest one ≤ s.made = greatest_least s.made one
    (λ k used. let part = uses_alone k place kids in let inner = uses_under s l n.0 kids at k in l.numbered k (omega (arith, used, part, inner))) in
    let few = l.few in
    let back = ap depth_of (kids_undone s.tree n.0 (removed_at place) (inserted_at place one) spot (l.distinct n.0) (child_back place kids within) (at_spot s l n.0 spot at.there)) in
    let shallow = l.shallow in
    record {
      one = one;
      single = single_alone place kids within;
      leaves = leaves_alone place kids (leaves_under s l n.0 spot at.there (λ bad. cc));
      is = refl;
      short = short_alone place kids short;
      distinct = λ k.
          (let part = uses_alone k place kids in
          let sum = uses_changed s l n.0 kids at (removed_at place) k in
          let once = l.distinct k in
          omega (arith, part, sum, once));
      next = λ k past within_one. absurd (omega (arith, past, within_one, low));
      few = omega (arith, low, few);
      shallow = omega (arith, back, shallow);
    }

may_undo_kept : (s : Source) (prim : Primitive) (c : IsConsistent s) → MayApply prim s → IsLinked (applied prim s) → MayApply (inverse prim s) (applied prim s)
may_undo_kept s (InsertText n at piece) c may kept =
    (inserted at piece may.0, text_after s c.linked n.0 may.0 (inserted at piece) may.1 (kept.distinct n.0), starts may.0 piece at may.2, ends may.0 piece at may.2, omega arith)
may_undo_kept s (RemoveText n from to) c may kept = may_insert s c n from to may.0 may.1 may.2 may.3 may.4 (kept.distinct n.0)
may_undo_kept s (InsertChild n place items) c may kept =
    let spot : Spot = may.0.0 in
    let at = element_spot s n.0 spot may.0.1 may.0.2 in
    let h = element_after s c.linked n.0 (applied (InsertChild n place items) s).made spot.kids at (inserted_at place (subtree items)) (kept.distinct n.0) in
    let more = subst (λ one. place < length (numbers (inserted_at place one spot.kids))) (sym (subtree_one s n.0 place items may.1)) (more_children place may.1.one spot.kids may.1.single may.0.3) in
    (record { up = h.0; body = Element at.name at.pairs; kids = inserted_at place (subtree items) spot.kids }, h.1, tt, more)
may_undo_kept s (RemoveChild n place) c may kept =
    let spot : Spot = may.0 in
    let at = element_spot s n.0 spot may.1 may.2 in
    let h = element_after s c.linked n.0 s.made spot.kids at (removed_at place) (kept.distinct n.0) in
    let items = out_items s n.0 place (record { up = at.up; body = Element at.name at.pairs; kids = spot.kids }) at.there in (
      (record { up = h.0; body = Element at.name at.pairs; kids = removed_at place spot.kids }, h.1, tt, fewer_children place spot.kids may.3),
      subst (IsSubtree (applied (RemoveChild n place) s) n.0 place) (sym items) (child_again s c n place spot.kids at may.3),
    )
may_undo_kept s (SetAttr n name value) c may kept =
    let at = element_spot s n.0 may.0.0 may.0.1 may.0.2 in
    subst (λ pairs. MayApply (old_value n name (value_among name pairs)) (applied (SetAttr n name value) s)) (sym at.are)
    (may_set_old s c n name value may.0.0.kids at (value_among name at.pairs) refl (kept.distinct n.0))
may_undo_kept s (RemoveAttr n name) c may kept =
    let at = element_spot s n.0 may.0.0 may.0.1 may.0.2 in
    let v = has_value name at.pairs (subst (λ pairs. IsSome (value_among name pairs)) at.are may.1) in
    may_put s c n name v.0 may.0.0.kids at v.1 (kept.distinct n.0)
may_undo_kept s (PutAttr n place name value) c may kept =
    let at = element_spot s n.0 may.0.0 may.0.1 may.0.2 in
    let h = pairs_after s c.linked n.0 may.0.0.kids at (λ pairs. insert pairs place (pair_of name value)) (kept.distinct n.0) in
    let found = value_put name value at.pairs place (sym (ap (value_among name) at.are) ∙ may.1) (subst (λ pairs. place ≤ length pairs) at.are may.2) in
    (h.has, subst (λ pairs. IsSome (value_among name pairs)) (sym h.are) (subst IsSome (sym found) refl))

pub may_undo : (s : Source) (prim : Primitive) → IsConsistent s → MayApply prim s → MayApply (inverse prim s) (applied prim s)
may_undo s prim c may = may_undo_kept s prim c may (linked_kept s prim c.linked may)
