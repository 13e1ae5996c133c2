-- What a primitive leaves of a consistent source is consistent.
use Rattle.std.proofs.Common.{◌≡◌, ℕ, ◌+◌, ◌<◌, ◌≤◌, inl, inr, List, ◌++◌, length, Some, encode_utf8_all, sym, ap, ◌∙◌, subst, arith, length-append}
use Rattle.std.proofs.lemmas.Bool.{cases_eq}
use Rattle.std.proofs.lemmas.Str.{encodes-append}
use Rattle.std.specs.Prelude.{insert, max}
use Rattle.serna_kinds.specs.Limits.{node_limit, depth_limit}
use Rattle.serna_kinds.specs.declared.cells.AttrPair.{AttrPair}
use Rattle.serna_kinds.specs.Texts.{IsPlaceIn, upto, past, inserted, removed}
use Rattle.serna_kinds.proofs.TextLemmas.{inserted-at, upto-before, past-before}
use Rattle.source_model.specs.Source.{Body, Root, Element, Text, Forest, none, node, Source}
use Rattle.source_model.specs.Cells.{Spot, spot_of}
use Rattle.source_model.specs.Changes.{text_at, with_characters, with_pairs, with_body, with_text, with_attributes, with_kids, inserted_at, removed_at, greatest}
use Rattle.source_model.specs.Attributes.{pair_of, value_among, with_value, without_name, DifferByNumber}
use Rattle.source_model.specs.Proper.{uses, depth_of, IsShort}
use Rattle.source_model.specs.Consistent.{AreLeaves, AreShort, AreShortValues, IsLinked, IsConsistent}
use Rattle.source_model.proofs.Pairs.{differ-with_value, differ-without_name, put-differ, short-with_value, short-without_name, short-insert}
use Rattle.source_primitives.specs.declared.primitive.Primitive.{Primitive}
use Rattle.source_primitives.specs.declared.primitive.Primitive.TheVariants.{InsertText, RemoveText, InsertChild, RemoveChild, SetAttr, RemoveAttr, PutAttr}
use Rattle.source_primitives.specs.declared.primitive.SubItem.{SubItem}
use Rattle.source_primitives.specs.Primitives.{IsSubtree, applied, with_tree, with_nodes, MayApply}
use Rattle.source_primitives.proofs.Around.{Around, below, plug, uses-plug, depth_of-plug, AreLeaves-plug, AreShort-plug}
use Rattle.source_primitives.proofs.Inside.{inside, body_changed, kids_changed, whole, AreShort-at, spot_text, ElementAt, element_spot}
use Rattle.source_primitives.proofs.Subtrees.{uses_alone, uses_inserted, depth_removed, leaves_removed, short_removed, leaves_inserted, short_inserted, used_greatest}
use Rattle.source_primitives.proofs.Undone.{subtree_one}

-- a change of what one node is
body_kept : (s : Source) (c : IsLinked s) (n : ℕ) (spot : Spot) (change : Body → Body) → spot_of s n ≡ Some spot → (spot.body ≡ Root → ⊥) →
    ((kids rest : Forest) → AreLeaves (node n spot.body kids rest) → AreLeaves (node n (change spot.body) kids rest)) →
    ((kids rest : Forest) → depth_of (node n (change spot.body) kids rest) ≤ depth_of (node n spot.body kids rest)) → IsLinked (with_tree s (with_body n change s.tree))
body_kept s c n spot change e inner leaves deep =
    let b = inside s c.top c.rooted c.distinct n spot e inner in
    let a : Around = b.found.around in
    let f : Forest = node n spot.body spot.kids b.found.rest in
    let g : Forest = node n (change spot.body) spot.kids b.found.rest in
    let was = whole s c.top n spot c.rooted b in
    let is = body_changed s c.top n spot change c.rooted b in
    let same : (k : ℕ) → uses k (with_body n change s.tree) ≡ uses k s.tree = λ k.
    (let h = uses-plug k (below 0 Root a none) f g in
    let one = ap (uses k) is in
    let two = ap (uses k) was in
    omega (arith, h, one, two)) in
    let level = depth_of-plug (below 0 Root a none) f g (deep spot.kids b.found.rest) in
    let old_depth = ap depth_of was in
    let new_depth = ap depth_of is in
    let shallow = c.shallow in
    record {
      top = plug a g;
      rooted = is;
      leaves = AreLeaves-plug a f g (λ bad. cc) (leaves spot.kids b.found.rest) (subst AreLeaves b.found.whole c.leaves);
      distinct = λ k. (let h = same k in let i = c.distinct k in omega (arith, h, i));
      numbered = λ k used. (let h = same k in c.numbered k (omega (arith, used, h)));
      few = c.few;
      shallow = omega (arith, level, old_depth, new_depth, shallow);
    }

-- what is short below the document node, told of the whole tree
whole_short : (s : Source) (c : IsConsistent s) → AreShort s.tree
whole_short s c = subst AreShort (sym c.linked.rooted) (c.short, tt)

short_top : (s : Source) (l : IsLinked s) → AreShort s.tree → AreShort l.top
short_top s l short = (subst AreShort l.rooted short).0

pub consistent : (s : Source) (l : IsLinked s) → AreShort s.tree → IsConsistent s
consistent s l short = record { linked = l; short = short_top s l short }

body_short : (s : Source) (c : IsConsistent s) (n : ℕ) (spot : Spot) (change : Body → Body) → spot_of s n ≡ Some spot → (spot.body ≡ Root → ⊥) →
    ((kids rest : Forest) → AreShort (node n spot.body kids rest) → AreShort (node n (change spot.body) kids rest)) → AreShort (with_body n change s.tree)
body_short s c n spot change e inner short =
    let l = c.linked in
    let b = inside s l.top l.rooted l.distinct n spot e inner in
    let f : Forest = node n spot.body spot.kids b.found.rest in
    let g : Forest = node n (change spot.body) spot.kids b.found.rest in
    subst AreShort (sym (body_changed s l.top n spot change l.rooted b)) (AreShort-plug b.found.around f g (short spot.kids b.found.rest) (subst AreShort b.found.whole c.short), tt)

-- a change of characters
text_linked : (s : Source) (c : IsLinked s) (n : ℕ) (text : List ℕ) (change : List ℕ → List ℕ) → text_at s n ≡ Some text → IsLinked (with_tree s (with_text n change s.tree))
text_linked s c n text change there =
    let at = spot_text s n text there in
    body_kept s c n (record { up = at.0; body = Text text; kids = at.1 }) (with_characters change) at.2 (λ bad. cc) (λ kids rest h. h) (λ kids rest. omega arith)

text_short : (s : Source) (c : IsConsistent s) (n : ℕ) (text : List ℕ) (change : List ℕ → List ℕ) → text_at s n ≡ Some text → IsShort (change text) → AreShort (with_text n change s.tree)
text_short s c n text change there short =
    let at = spot_text s n text there in
    body_short s c n (record { up = at.0; body = Text text; kids = at.1 }) (with_characters change) at.2 (λ bad. cc) (λ kids rest h. (short, h.1, h.2))

-- a change of attributes
pairs_linked : (s : Source) (c : IsLinked s) (n : ℕ) (kids : Forest) (at : ElementAt s n kids) (change : List AttrPair → List AttrPair) → IsLinked (with_tree s (with_attributes n change s.tree))
pairs_linked s c n kids at change =
    body_kept s c n (record { up = at.up; body = Element at.name at.pairs; kids = kids }) (with_pairs change) at.there (λ bad. cc) (λ inner rest h. h) (λ inner rest. omega arith)

pairs_short : (s : Source) (c : IsConsistent s) (n : ℕ) (kids : Forest) (at : ElementAt s n kids) (change : List AttrPair → List AttrPair) →
    (DifferByNumber at.pairs → DifferByNumber (change at.pairs)) → (AreShortValues at.pairs → AreShortValues (change at.pairs)) → AreShort (with_attributes n change s.tree)
pairs_short s c n kids at change differ short =
    body_short s c n (record { up = at.up; body = Element at.name at.pairs; kids = kids }) (with_pairs change) at.there (λ bad. cc)
    (λ inner rest h. ((differ h.0.0, short h.0.1), h.1, h.2))

-- bytes of a text with a part taken out, and of one with a piece put in
pub fewer_bytes : (text : List ℕ) (from to : ℕ) → IsPlaceIn text from → IsPlaceIn text to → from ≤ to → length (encode_utf8_all (removed from to text)) + to ≡ length (encode_utf8_all text) + from
fewer_bytes text from to p q within =
    let first : upto from text ≡ p.before = ap (upto from) p.whole ∙ upto-before p.before p.behind from p.place in
    let last : past to text ≡ q.behind = ap (past to) q.whole ∙ past-before q.before q.behind to q.place in
    let is : removed from to text ≡ p.before ++ q.behind = ap (λ t. t ++ past to text) first ∙ ap (λ t. p.before ++ t) last in
    let new = ap (λ t. length (encode_utf8_all t)) is in
    let new_bytes = ap length (encodes-append p.before q.behind) in
    let new_sum = length-append (encode_utf8_all p.before) (encode_utf8_all q.behind) in
    let old = ap (λ t. length (encode_utf8_all t)) q.whole in
    let old_bytes = ap length (encodes-append q.before q.behind) in
    let old_sum = length-append (encode_utf8_all q.before) (encode_utf8_all q.behind) in
    let at_from = p.place in
    let at_to = q.place in
    omega (arith, new, new_bytes, new_sum, old, old_bytes, old_sum, at_from, at_to)

pub more_bytes : (text piece : List ℕ) (at : ℕ) → IsPlaceIn text at → length (encode_utf8_all (inserted at piece text)) ≡ length (encode_utf8_all text) + length (encode_utf8_all piece)
more_bytes text piece at p =
    let new = ap (λ t. length (encode_utf8_all t)) (inserted-at text piece at p) in
    let old = ap (λ t. length (encode_utf8_all t)) p.whole in
    let one = ap length (encodes-append p.before p.behind) in
    let two = ap length (encodes-append p.before (piece ++ p.behind)) in
    let three = ap length (encodes-append piece p.behind) in
    let four = length-append (encode_utf8_all p.before) (encode_utf8_all p.behind) in
    let five = length-append (encode_utf8_all p.before) (encode_utf8_all (piece ++ p.behind)) in
    let six = length-append (encode_utf8_all piece) (encode_utf8_all p.behind) in
    omega (arith, new, old, one, two, three, four, five, six)

-- the text of a number is short
pub short_text : (s : Source) (c : IsConsistent s) (n : ℕ) (text : List ℕ) → text_at s n ≡ Some text → IsShort text
short_text s c n text there =
    let at = spot_text s n text there in
    let spot : Spot = record { up = at.0; body = Text text; kids = at.1 } in
    let b = inside s c.linked.top c.linked.rooted c.linked.distinct n spot at.2 (λ bad. cc) in
    (AreShort-at b.found.around (node n (Text text) at.1 b.found.rest) (subst AreShort b.found.whole c.short)).0

-- the attributes of an element differ, and their values are short
pub pairs_are : (s : Source) (c : IsConsistent s) (n : ℕ) (kids : Forest) (at : ElementAt s n kids) → DifferByNumber at.pairs × AreShortValues at.pairs
pairs_are s c n kids at =
    let spot : Spot = record { up = at.up; body = Element at.name at.pairs; kids = kids } in
    let b = inside s c.linked.top c.linked.rooted c.linked.distinct n spot at.there (λ bad. cc) in
    (AreShort-at b.found.around (node n (Element at.name at.pairs) kids b.found.rest) (subst AreShort b.found.whole c.short)).0

-- a change of children
pub record Children (s : Source) (n : ℕ) (change : Forest → Forest) (kids : Forest) (made : ℕ) : Type 0 where
  pub leaves : AreLeaves kids → AreLeaves (change kids)
  pub distinct : (k : ℕ) → uses k s.tree + uses k (change kids) ≤ 1 + uses k kids
  pub numbered : (k : ℕ) → 0 < uses k (change kids) → (0 < uses k kids → k ≤ s.made) → k ≤ made
  pub grown : s.made ≤ made
  pub few : made ≤ node_limit
  pub shallow : depth_of (with_kids n change s.tree) ≤ depth_limit

-- the numbers of a tree in which one node's children are changed, and those that stand below it
pub uses_changed : (s : Source) (c : IsLinked s) (n : ℕ) (kids : Forest) (at : ElementAt s n kids) (change : Forest → Forest) (k : ℕ) →
    uses k (with_kids n change s.tree) + uses k kids ≡ uses k s.tree + uses k (change kids)
uses_changed s c n kids at change k =
    let body : Body = Element at.name at.pairs in
    let spot : Spot = record { up = at.up; body = body; kids = kids } in
    let b = inside s c.top c.rooted c.distinct n spot at.there (λ bad. cc) in
    let p = uses-plug k (below 0 Root b.found.around none) (node n body kids b.found.rest) (node n body (change kids) b.found.rest) in
    let one = ap (uses k) (kids_changed s c.top n spot change c.rooted b) in
    let two = ap (uses k) (whole s c.top n spot c.rooted b) in
    omega (arith, p, one, two)

pub uses_under : (s : Source) (c : IsLinked s) (n : ℕ) (kids : Forest) (at : ElementAt s n kids) (k : ℕ) → uses k kids ≤ uses k s.tree
uses_under s c n kids at k =
    let body : Body = Element at.name at.pairs in
    let spot : Spot = record { up = at.up; body = body; kids = kids } in
    let b = inside s c.top c.rooted c.distinct n spot at.there (λ bad. cc) in
    let p = uses-plug k (below 0 Root b.found.around none) (node n body kids b.found.rest) none in
    let two = ap (uses k) (whole s c.top n spot c.rooted b) in
    omega (arith, p, two)

kids_kept : (s : Source) (c : IsLinked s) (n made : ℕ) (kids : Forest) (at : ElementAt s n kids) (change : Forest → Forest) → Children s n change kids made →
    IsLinked (record { tree = with_kids n change s.tree; made = made; spaces = s.spaces })
kids_kept s c n made kids at change h =
    let body : Body = Element at.name at.pairs in
    let spot : Spot = record { up = at.up; body = body; kids = kids } in
    let b = inside s c.top c.rooted c.distinct n spot at.there (λ bad. cc) in
    let a : Around = b.found.around in
    let f : Forest = node n body kids b.found.rest in
    let g : Forest = node n body (change kids) b.found.rest in
    let sums = uses_changed s c n kids at change in
    record {
      top = plug a g;
      rooted = kids_changed s c.top n spot change c.rooted b;
      leaves = AreLeaves-plug a f g (λ bad. cc) (λ l. (h.leaves l.0, l.1)) (subst AreLeaves b.found.whole c.leaves);
      distinct = λ k. (let p = sums k in let i = h.distinct k in omega (arith, p, i));
      numbered = λ k used.
          (let p = sums k in
          let grown = h.grown in
          elim (cases_eq (uses k (change kids)) 0) [
            | inl none_new ↦ let old = c.numbered k (omega (arith, used, p, none_new)) in omega (arith, old, grown)
            | inr some_new ↦ h.numbered k (omega (arith, some_new)) (λ old. let inner = uses_under s c n kids at k in c.numbered k (omega (arith, inner, old)))
          ]);
      few = h.few;
      shallow = h.shallow;
    }

insert_children : (s : Source) (c : IsLinked s) (n place : ℕ) (items : List SubItem) (kids : Forest) →
    (is : IsSubtree s n place items) → Children s n (inserted_at place is.one) kids (max s.made (greatest is.one))
insert_children s c n place items kids is =
    let few = c.few in
    let low = is.few in
    record {
      leaves = leaves_inserted place is.one kids is.leaves;
      distinct = λ k. (let h = uses_inserted k place is.one kids in let i = is.distinct k in omega (arith, h, i));
      numbered = λ k used old.
          (let h = uses_inserted k place is.one kids in
          elim (cases_eq (uses k is.one) 0) [
            | inl none_new ↦ let within = old (omega (arith, used, h, none_new)) in omega (arith, within)
            | inr some_new ↦ let within = used_greatest k is.one (omega (arith, some_new)) in omega (arith, within)
          ]);
      grown = omega arith;
      few = omega (arith, few, low);
      shallow = is.shallow;
    }

remove_children : (s : Source) (c : IsLinked s) (n place : ℕ) (kids : Forest) (at : ElementAt s n kids) → Children s n (removed_at place) kids s.made
remove_children s c n place kids at =
    let body : Body = Element at.name at.pairs in
    let spot : Spot = record { up = at.up; body = body; kids = kids } in
    let b = inside s c.top c.rooted c.distinct n spot at.there (λ bad. cc) in
    let a : Around = b.found.around in
    let f : Forest = node n body kids b.found.rest in
    let g : Forest = node n body (removed_at place kids) b.found.rest in
    let was = ap depth_of (whole s c.top n spot c.rooted b) in
    let is = ap depth_of (kids_changed s c.top n spot (removed_at place) c.rooted b) in
    let less = depth_removed place kids in
    let level = depth_of-plug (below 0 Root a none) f g (omega (arith, less)) in
    let shallow = c.shallow in
    record {
      leaves = leaves_removed place kids;
      distinct = λ k. (let h = uses_alone k place kids in let i = c.distinct k in omega (arith, h, i));
      numbered = λ k used old. (let h = uses_alone k place kids in old (omega (arith, used, h)));
      grown = omega arith;
      few = c.few;
      shallow = omega (arith, was, is, level, shallow);
    }

children_short : (s : Source) (c : IsConsistent s) (n : ℕ) (kids : Forest) (at : ElementAt s n kids) (change : Forest → Forest) → (AreShort kids → AreShort (change kids)) →
    AreShort (with_kids n change s.tree)
children_short s c n kids at change short =
    let l = c.linked in
    let spot : Spot = record { up = at.up; body = Element at.name at.pairs; kids = kids } in
    let b = inside s l.top l.rooted l.distinct n spot at.there (λ bad. cc) in
    let f : Forest = node n spot.body kids b.found.rest in
    let g : Forest = node n spot.body (change kids) b.found.rest in
    subst AreShort (sym (kids_changed s l.top n spot change l.rooted b)) (AreShort-plug b.found.around f g (λ h. (h.0, short h.1, h.2)) (subst AreShort b.found.whole c.short), tt)

pub linked_kept : (s : Source) (prim : Primitive) → IsLinked s → MayApply prim s → IsLinked (applied prim s)
linked_kept s (InsertText n at piece) c may = text_linked s c n.0 may.0 (inserted at piece) may.1
linked_kept s (RemoveText n from to) c may = text_linked s c n.0 may.0 (removed from to) may.1
linked_kept s (InsertChild n place items) c may =
    let at = element_spot s n.0 may.0.0 may.0.1 may.0.2 in
    subst (λ one. IsLinked (with_nodes s n.0 place one)) (sym (subtree_one s n.0 place items may.1))
    (kids_kept s c n.0 (max s.made (greatest may.1.one)) may.0.0.kids at (inserted_at place may.1.one) (insert_children s c n.0 place items may.0.0.kids may.1))
linked_kept s (RemoveChild n place) c may =
    let at = element_spot s n.0 may.0 may.1 may.2 in
    kids_kept s c n.0 s.made may.0.kids at (removed_at place) (remove_children s c n.0 place may.0.kids at)
linked_kept s (SetAttr n name value) c may = pairs_linked s c n.0 may.0.0.kids (element_spot s n.0 may.0.0 may.0.1 may.0.2) (with_value name value)
linked_kept s (RemoveAttr n name) c may = pairs_linked s c n.0 may.0.0.kids (element_spot s n.0 may.0.0 may.0.1 may.0.2) (without_name name)
linked_kept s (PutAttr n place name value) c may =
    pairs_linked s c n.0 may.0.0.kids (element_spot s n.0 may.0.0 may.0.1 may.0.2) (λ pairs. insert pairs place (pair_of name value))

short_kept : (s : Source) (prim : Primitive) → IsConsistent s → MayApply prim s → AreShort (applied prim s).tree
short_kept s (InsertText n at piece) c may =
    let bytes = more_bytes may.0 piece at may.2 in
    let room = may.3 in
    text_short s c n.0 may.0 (inserted at piece) may.1 (omega (arith, bytes, room))
short_kept s (RemoveText n from to) c may =
    let bytes = fewer_bytes may.0 from to may.2 may.3 may.4 in
    let short = short_text s c n.0 may.0 may.1 in
    let order = may.4 in
    text_short s c n.0 may.0 (removed from to) may.1 (omega (arith, bytes, short, order))
short_kept s (InsertChild n place items) c may =
    let at = element_spot s n.0 may.0.0 may.0.1 may.0.2 in
    subst (λ one. AreShort (with_kids n.0 (inserted_at place one) s.tree)) (sym (subtree_one s n.0 place items may.1))
    (children_short s c n.0 may.0.0.kids at (inserted_at place may.1.one) (short_inserted place may.1.one may.0.0.kids may.1.short))
short_kept s (RemoveChild n place) c may =
    children_short s c n.0 may.0.kids (element_spot s n.0 may.0 may.1 may.2) (removed_at place) (short_removed place may.0.kids)
short_kept s (SetAttr n name value) c may =
    let at = element_spot s n.0 may.0.0 may.0.1 may.0.2 in
    pairs_short s c n.0 may.0.0.kids at (with_value name value) (differ-with_value name value at.pairs) (short-with_value name value at.pairs may.1)
short_kept s (RemoveAttr n name) c may =
    let at = element_spot s n.0 may.0.0 may.0.1 may.0.2 in
    pairs_short s c n.0 may.0.0.kids at (without_name name) (differ-without_name name at.pairs) (short-without_name name at.pairs)
short_kept s (PutAttr n place name value) c may =
    let at = element_spot s n.0 may.0.0 may.0.1 may.0.2 in
    let absent = sym (ap (value_among name) at.are) ∙ may.1 in
    let within = subst (λ pairs. place ≤ length pairs) at.are may.2 in
    pairs_short s c n.0 may.0.0.kids at (λ pairs. insert pairs place (pair_of name value)) (λ differ. put-differ name value at.pairs place differ absent within)
    (λ short. short-insert name value at.pairs place may.3 short within)

pub consistent_kept : (s : Source) (prim : Primitive) → IsConsistent s → MayApply prim s → IsConsistent (applied prim s)
consistent_kept s prim c may = consistent (applied prim s) (linked_kept s prim c.linked may) (short_kept s prim c may)
