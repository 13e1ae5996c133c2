-- What takes a primitive back restores the tree.
use Rattle.std.proofs.Common.{◌≡◌, ℕ, zero, suc, ◌+◌, ◌-◌, ◌<◌, ◌≤◌, List, [], ◌∷◌, ◌++◌, length, Option, Some, None, encode_utf8_all, refl, sym, ap, ◌∙◌, subst, arith, append_assoc, length-append}
use Rattle.std.proofs.lemmas.Str.{encodes-append}
use Rattle.std.specs.Char.{encode_utf8}
use Rattle.std.specs.Option.{option_map_or}
use Rattle.std.specs.Prelude.{IsSome, insert, unwrap_or}
use Rattle.serna_kinds.specs.declared.cells.NameId.{NameId}
use Rattle.serna_kinds.specs.declared.cells.NodeName.{NodeName}
use Rattle.serna_kinds.specs.declared.cells.AttrPair.{AttrPair}
use Rattle.serna_kinds.specs.Texts.{IsPlaceIn, upto, past, inserted, removed}
use Rattle.serna_kinds.proofs.TextLemmas.{inserted-at, upto-before, past-before}
use Rattle.source_model.specs.Source.{Body, Root, Element, Text, Forest, none, node, Source, numbers}
use Rattle.source_model.specs.Cells.{Spot, spot_of}
use Rattle.source_model.specs.Changes.{text_at, pairs_at, between, with_characters, with_pairs, with_body, with_text, with_attributes, with_kids, inserted_at, removed_at, alone_at}
use Rattle.source_model.specs.Attributes.{pair_of, value_among, place_among, with_value, without_name}
use Rattle.source_model.specs.Proper.{uses}
use Rattle.source_model.specs.Consistent.{AreLeaves, IsLinked}
use Rattle.source_model.proofs.Pairs.{value_back, value_out, pair_back, pair_out}
use Rattle.source_primitives.specs.declared.primitive.Primitive.{Primitive}
use Rattle.source_primitives.specs.declared.primitive.Primitive.TheVariants.{InsertText, RemoveText, InsertChild, RemoveChild, SetAttr, RemoveAttr, PutAttr}
use Rattle.source_primitives.specs.declared.primitive.SubItem.{SubItem}
use Rattle.source_primitives.specs.Primitives.{HasPlace, IsSubtree, subtree, items_of, old_value, applied, inverse, MayApply}
use Rattle.source_primitives.proofs.Around.{Around, plug, uses-plug, with_body-plug, with_kids-plug, Found, found}
use Rattle.source_primitives.proofs.Inside.{inside, AreLeaves-at, leaves_inside, spot_text, ElementAt, element_spot}
use Rattle.source_primitives.proofs.Subtrees.{subtree-items_of, leaves_alone, child_out, child_back}

-- what a node is, changed and changed back
body_undone : (tree : Forest) (n : ℕ) (change back : Body → Body) (spot : Spot) → uses n tree ≤ 1 → back (change spot.body) ≡ spot.body → Found n spot tree →
    with_body n back (with_body n change tree) ≡ tree
body_undone tree n change back spot once e at =
    let a : Around = at.around in
    let old : uses n (plug a (node n spot.body spot.kids at.rest)) ≤ 1 = subst (λ t. uses n t ≤ 1) at.whole once in
    let same = uses-plug n a (node n spot.body spot.kids at.rest) (node n (change spot.body) spot.kids at.rest) in
    ap (with_body n back) (at.body change)
    ∙ with_body-plug a n (change spot.body) spot.kids at.rest back (omega (arith, same, old))
    ∙ ap (λ b. plug a (node n b spot.kids at.rest)) e
    ∙ sym at.whole

-- its children, changed and changed back
pub kids_undone : (tree : Forest) (n : ℕ) (change back : Forest → Forest) (spot : Spot) → uses n tree ≤ 1 → back (change spot.kids) ≡ spot.kids → Found n spot tree →
    with_kids n back (with_kids n change tree) ≡ tree
kids_undone tree n change back spot once e at =
    let a : Around = at.around in
    let old : uses n (plug a (node n spot.body spot.kids at.rest)) ≤ 1 = subst (λ t. uses n t ≤ 1) at.whole once in
    let bare = uses-plug n a (node n spot.body spot.kids at.rest) (node n spot.body none at.rest) in
    ap (with_kids n back) (at.kids change)
    ∙ with_kids-plug a n spot.body (change spot.kids) at.rest back (omega (arith, bare, old))
    ∙ ap (λ f. plug a (node n spot.body f at.rest)) e
    ∙ sym at.whole

-- the characters that were put in are those that are taken out
taken_out : (text piece : List ℕ) (place : ℕ) → IsPlaceIn text place → removed place (place + length (encode_utf8_all piece)) (inserted place piece text) ≡ text
taken_out text piece place p =
    let to : ℕ = place + length (encode_utf8_all piece) in
    let whole : List ℕ = p.before ++ (piece ++ p.behind) in
    let grouped : (p.before ++ piece) ++ p.behind ≡ whole = append_assoc p.before piece p.behind in
    let bytes = ap length (encodes-append p.before piece) in
    let sum = length-append (encode_utf8_all p.before) (encode_utf8_all piece) in
    let at = p.place in
    let end : length (encode_utf8_all (p.before ++ piece)) ≡ to = omega (arith, bytes, sum, at) in
    ap (removed place to) (inserted-at text piece place p)
    ∙ ap (λ t. t ++ past to whole) (upto-before p.before (piece ++ p.behind) place p.place)
    ∙ ap (λ t. p.before ++ t) (ap (past to) (sym grouped) ∙ past-before (p.before ++ piece) p.behind to end)
    ∙ sym p.whole

-- a text falls into what stands before a place and what stands behind it
pub upto-past : (n : ℕ) (t : List ℕ) → upto n t ++ past n t ≡ t
upto-past zero t = refl
upto-past (suc n) [] = refl
upto-past (suc n) (c ∷ cs) = ap (λ x. c ∷ x) (upto-past (suc n - length (encode_utf8 c)) cs)

pub upto-upto : (n m : ℕ) (t : List ℕ) → n ≤ m → upto n (upto m t) ≡ upto n t
upto-upto zero m t within = refl
upto-upto (suc n) zero t within = absurd (omega (arith, within))
upto-upto (suc n) (suc m) [] within = refl
upto-upto (suc n) (suc m) (c ∷ cs) within =
    ap (λ x. c ∷ x) (upto-upto (suc n - length (encode_utf8 c)) (suc m - length (encode_utf8 c)) cs (omega (arith, within)))

-- the characters that were taken out are put in again
pub put_back : (text : List ℕ) (from to : ℕ) → IsPlaceIn text from → from ≤ to → inserted from (between from to text) (removed from to text) ≡ text
put_back text from to p within =
    let piece : List ℕ = between from to text in
    let later : List ℕ = past to text in
    let first : upto from text ≡ p.before = ap (upto from) p.whole ∙ upto-before p.before p.behind from p.place in
    let middle : p.before ++ piece ≡ upto to text =
    ap (λ x. x ++ piece) (sym first ∙ sym (upto-upto from to text within)) ∙ upto-past from (upto to text) in
    ap (λ x. inserted from piece (x ++ later)) first
    ∙ ap (λ x. x ++ (piece ++ past from (p.before ++ later))) (upto-before p.before later from p.place)
    ∙ ap (λ x. p.before ++ (piece ++ x)) (past-before p.before later from p.place)
    ∙ sym (append_assoc p.before piece later)
    ∙ ap (λ x. x ++ later) middle
    ∙ upto-past to text

pub at_spot : (source : Source) (c : IsLinked source) (n : ℕ) (spot : Spot) → spot_of source n ≡ Some spot → Found n spot source.tree
at_spot source c n spot e = found None n source.tree spot (c.distinct n) e

-- characters
insert_undone : (source : Source) (c : IsLinked source) (n : NodeName) (at : ℕ) (piece text : List ℕ) → text_at source n.0 ≡ Some text → IsPlaceIn text at →
    with_text n.0 (removed at (at + length (encode_utf8_all piece))) (with_text n.0 (inserted at piece) source.tree) ≡ source.tree
insert_undone source c n at piece text there place =
    let s = spot_text source n.0 text there in
    let spot : Spot = record { up = s.0; body = Text text; kids = s.1 } in
    body_undone source.tree n.0 (with_characters (inserted at piece)) (with_characters (removed at (at + length (encode_utf8_all piece)))) spot (c.distinct n.0)
    (ap Text (taken_out text piece at place)) (at_spot source c n.0 spot s.2)

pub text_comes_back : (source : Source) (n : NodeName) (from to : ℕ) (text : List ℕ) → ((k : ℕ) → uses k source.tree ≤ 1) → text_at source n.0 ≡ Some text → IsPlaceIn text from → from ≤ to →
    (applied (inverse (RemoveText n from to) source) (applied (RemoveText n from to) source)).tree ≡ source.tree
text_comes_back source n from to text once there place within =
    let s = spot_text source n.0 text there in
    let spot : Spot = record { up = s.0; body = Text text; kids = s.1 } in
    ap (λ piece. with_text n.0 (inserted from piece) (with_text n.0 (removed from to) source.tree)) (ap (λ o. option_map_or (between from to) o []) there)
    ∙ body_undone source.tree n.0 (with_characters (removed from to)) (with_characters (inserted from (between from to text))) spot (once n.0) (ap Text (put_back text from to place within))
    (found None n.0 source.tree spot (once n.0) s.2)

-- attributes
pairs_undone : (source : Source) (c : IsLinked source) (n : NodeName) (spot : Spot) (at : ElementAt source n.0 spot.kids) (change back : List AttrPair → List AttrPair) →
    back (change at.pairs) ≡ at.pairs → with_attributes n.0 back (with_attributes n.0 change source.tree) ≡ source.tree
pairs_undone source c n spot at change back e =
    let own : Spot = record { up = at.up; body = Element at.name at.pairs; kids = spot.kids } in
    body_undone source.tree n.0 (with_pairs change) (with_pairs back) own (c.distinct n.0) (ap (Element at.name) e) (at_spot source c n.0 own at.there)

set_undone : (source : Source) (c : IsLinked source) (n : NodeName) (name : NameId) (value : List ℕ) (spot : Spot) (at : ElementAt source n.0 spot.kids) (o : Option (List ℕ)) →
    value_among name at.pairs ≡ o → (applied (old_value n name o) (applied (SetAttr n name value) source)).tree ≡ source.tree
set_undone source c n name value spot at None e = pairs_undone source c n spot at (with_value name value) (without_name name) (value_out name value at.pairs e)
set_undone source c n name value spot at (Some old) e = pairs_undone source c n spot at (with_value name value) (with_value name old) (value_back name value old at.pairs e)

value_there : (name : NameId) (pairs : List AttrPair) (o : Option (List ℕ)) → value_among name pairs ≡ o → IsSome o → (value : List ℕ) × (value_among name pairs ≡ Some value)
value_there name pairs None e some = cc
value_there name pairs (Some value) e some = (value, e)

pub has_value : (name : NameId) (pairs : List AttrPair) → IsSome (value_among name pairs) → (value : List ℕ) × (value_among name pairs ≡ Some value)
has_value name pairs some = value_there name pairs (value_among name pairs) refl some

unset_undone : (source : Source) (c : IsLinked source) (n : NodeName) (name : NameId) (value : List ℕ) (spot : Spot) (at : ElementAt source n.0 spot.kids) → value_among name at.pairs ≡ Some value →
    (applied (inverse (RemoveAttr n name) source) (applied (RemoveAttr n name) source)).tree ≡ source.tree
unset_undone source c n name value spot at e =
    let put : List AttrPair → Forest =
    λ pairs. with_attributes n.0 (λ ps. insert ps (place_among name pairs) (pair_of name (unwrap_or (value_among name pairs) []))) (with_attributes n.0 (without_name name) source.tree) in
    ap put at.are
    ∙ ap (λ o. with_attributes n.0 (λ ps. insert ps (place_among name at.pairs) (pair_of name (unwrap_or o []))) (with_attributes n.0 (without_name name) source.tree)) e
    ∙ pairs_undone source c n spot at (without_name name) (λ ps. insert ps (place_among name at.pairs) (pair_of name value)) (pair_back name value at.pairs e)

-- children
pub subtree_one : (source : Source) (parent place : ℕ) (items : List SubItem) (is : IsSubtree source parent place items) → subtree items ≡ is.one
subtree_one source parent place items is = ap subtree is.is ∙ subtree-items_of is.one is.leaves

insert_child_undone : (source : Source) (c : IsLinked source) (n : NodeName) (place : ℕ) (items : List SubItem) (has : HasPlace source n.0 place) → IsSubtree source n.0 place items →
    with_kids n.0 (removed_at place) (with_kids n.0 (inserted_at place (subtree items)) source.tree) ≡ source.tree
insert_child_undone source c n place items has is =
    let spot : Spot = has.0 in
    ap (λ one. with_kids n.0 (removed_at place) (with_kids n.0 (inserted_at place one) source.tree)) (subtree_one source n.0 place items is)
    ∙ kids_undone source.tree n.0 (inserted_at place is.one) (removed_at place) spot (c.distinct n.0) (child_out place is.one spot.kids is.single has.3) (at_spot source c n.0 spot has.1)

-- below an element of a consistent source, texts and comments are leaves
pub leaves_under : (source : Source) (c : IsLinked source) (n : ℕ) (spot : Spot) → spot_of source n ≡ Some spot → (spot.body ≡ Root → ⊥) → AreLeaves spot.kids
leaves_under source c n spot e inner =
    let b = inside source c.top c.rooted c.distinct n spot e inner in
    let f : Forest = node n spot.body spot.kids b.found.rest in
    (leaves_inside n spot.body spot.kids b.found.rest (AreLeaves-at b.found.around f (λ bad. cc) (subst AreLeaves b.found.whole c.leaves))).0

pub out_items : (source : Source) (n : ℕ) (place : ℕ) (spot : Spot) → spot_of source n ≡ Some spot →
    option_map_or (λ (s : Spot). items_of (alone_at place s.kids)) (spot_of source n) [] ≡ items_of (alone_at place spot.kids)
out_items source n place spot e = ap (λ o. option_map_or (λ (s : Spot). items_of (alone_at place s.kids)) o []) e

remove_child_undone : (source : Source) (c : IsLinked source) (n : NodeName) (place : ℕ) (spot : Spot) → spot_of source n.0 ≡ Some spot → (spot.body ≡ Root → ⊥) → place < length (numbers spot.kids) →
    (applied (inverse (RemoveChild n place) source) (applied (RemoveChild n place) source)).tree ≡ source.tree
remove_child_undone source c n place spot e inner within =
    ap (λ xs. with_kids n.0 (inserted_at place (subtree xs)) (with_kids n.0 (removed_at place) source.tree)) (out_items source n.0 place spot e)
    ∙ ap (λ more. with_kids n.0 (inserted_at place more) (with_kids n.0 (removed_at place) source.tree))
    (subtree-items_of (alone_at place spot.kids) (leaves_alone place spot.kids (leaves_under source c n.0 spot e inner)))
    ∙ kids_undone source.tree n.0 (removed_at place) (inserted_at place (alone_at place spot.kids)) spot (c.distinct n.0) (child_back place spot.kids within) (at_spot source c n.0 spot e)

pub undone_tree : (source : Source) (prim : Primitive) → IsLinked source → MayApply prim source → (applied (inverse prim source) (applied prim source)).tree ≡ source.tree
undone_tree source (InsertText n at piece) c may = insert_undone source c n at piece may.0 may.1 may.2
undone_tree source (RemoveText n from to) c may = text_comes_back source n from to may.0 c.distinct may.1 may.2 may.4
undone_tree source (InsertChild n place items) c may = insert_child_undone source c n place items may.0 may.1
undone_tree source (RemoveChild n place) c may =
    let at = element_spot source n.0 may.0 may.1 may.2 in
    let spot : Spot = record { up = at.up; body = Element at.name at.pairs; kids = may.0.kids } in
    remove_child_undone source c n place spot at.there (λ bad. cc) may.3
undone_tree source (SetAttr n name value) c may =
    let at = element_spot source n.0 may.0.0 may.0.1 may.0.2 in
    ap (λ pairs. (applied (old_value n name (value_among name pairs)) (applied (SetAttr n name value) source)).tree) at.are
    ∙ set_undone source c n name value may.0.0 at (value_among name at.pairs) refl
undone_tree source (RemoveAttr n name) c may =
    let at = element_spot source n.0 may.0.0 may.0.1 may.0.2 in
    let v = has_value name at.pairs (subst (λ pairs. IsSome (value_among name pairs)) at.are may.1) in
    unset_undone source c n name v.0 may.0.0 at v.1
undone_tree source (PutAttr n place name value) c may =
    let at = element_spot source n.0 may.0.0 may.0.1 may.0.2 in
    pairs_undone source c n may.0.0 at (λ pairs. insert pairs place (pair_of name value)) (without_name name)
    (pair_out name value at.pairs place (sym (ap (value_among name) at.are) ∙ may.1) (subst (λ pairs. place ≤ length pairs) at.are may.2))

old_spaces : (n : NodeName) (name : NameId) (o : Option (List ℕ)) (source : Source) → (applied (old_value n name o) source).spaces ≡ source.spaces
old_spaces n name None source = refl
old_spaces n name (Some old) source = refl

old_made : (n : NodeName) (name : NameId) (o : Option (List ℕ)) (source : Source) → source.made ≤ (applied (old_value n name o) source).made
old_made n name None source = omega arith
old_made n name (Some old) source = omega arith

pub undone_spaces : (source : Source) (prim : Primitive) → (applied (inverse prim source) (applied prim source)).spaces ≡ source.spaces
undone_spaces source (InsertText n at piece) = refl
undone_spaces source (RemoveText n from to) = refl
undone_spaces source (InsertChild n place items) = refl
undone_spaces source (RemoveChild n place) = refl
undone_spaces source (SetAttr n name value) = old_spaces n name (value_among name (pairs_at source n.0)) (applied (SetAttr n name value) source)
undone_spaces source (RemoveAttr n name) = refl
undone_spaces source (PutAttr n place name value) = refl

-- the count of numbers ever made does not fall
pub undone_made : (source : Source) (prim : Primitive) → source.made ≤ (applied (inverse prim source) (applied prim source)).made
undone_made source (InsertText n at piece) = omega arith
undone_made source (RemoveText n from to) = omega arith
undone_made source (InsertChild n place items) = omega arith
undone_made source (RemoveChild n place) = omega arith
undone_made source (SetAttr n name value) = old_made n name (value_among name (pairs_at source n.0)) (applied (SetAttr n name value) source)
undone_made source (RemoveAttr n name) = omega arith
undone_made source (PutAttr n place name value) = omega arith
