-- A node below the document node, what stands around it, and what is found there once it was changed.
use Rattle.std.proofs.Common.{◌≡◌, ℕ, ◌≤◌, List, [], Option, Some, None, refl, sym, ap, ◌∙◌, subst, arith}
use Rattle.std.proofs.lemmas.Option.{same_Some}
use Rattle.std.specs.Option.{option_map_or, option_and_then}
use Rattle.serna_kinds.specs.declared.cells.NameId.{NameId}
use Rattle.serna_kinds.specs.declared.cells.AttrPair.{AttrPair}
use Rattle.source_model.specs.Source.{Body, Root, Element, Text, Comment, Forest, none, node, Source}
use Rattle.source_model.specs.Cells.{Spot, or_else, spot_in, spot_of}
use Rattle.source_model.specs.Changes.{characters, text_at, pairs_at, with_body, with_kids}
use Rattle.source_model.specs.Attributes.{pairs_of}
use Rattle.source_model.specs.Proper.{uses}
use Rattle.source_model.specs.Consistent.{AreLeaves, AreShort}
use Rattle.source_model.proofs.Spots.{spot_in-unused}
use Rattle.source_primitives.specs.Primitives.{IsElement}
use Rattle.source_primitives.proofs.Around.{Around, below, beside, plug, plug-some, at_same, at_other, count_same, uses-le-plug, other_number, other_behind, or_else-none, with_body-root, with_kids-root, Found, found}

-- a node of a source below the document node
pub record Below (s : Source) (top : Forest) (n : ℕ) (spot : Spot) : Type 0 where
  pub other : n ≡ 0 → ⊥
  pub found : Found n spot top

pub inside : (s : Source) (top : Forest) → s.tree ≡ node 0 Root top none → ((n : ℕ) → uses n s.tree ≤ 1) → (n : ℕ) (spot : Spot) → spot_of s n ≡ Some spot → (spot.body ≡ Root → ⊥) → Below s top n spot
inside s top rooted distinct n spot e inner =
    let document : Spot = record { up = None; body = Root; kids = top } in
    let at : spot_in None n (node 0 Root top none) ≡ Some spot = ap (spot_in None n) (sym rooted) ∙ e in
    let other : n ≡ 0 → ⊥ = λ is.
    inner (sym (ap (λ (o : Spot). o.body) (same_Some document spot (sym (at_same n 0 (Some document) (or_else (spot_in (Some 0) n top) None) is) ∙ at)))) in
    let once : uses n (node 0 Root top none) ≤ 1 = subst (λ t. uses n t ≤ 1) rooted (distinct n) in
    record {
      other = other;
      found = found (Some 0) n top spot (omega (arith, once))
          (sym (or_else-none (spot_in (Some 0) n top)) ∙ sym (at_other n 0 (Some document) (or_else (spot_in (Some 0) n top) None) other) ∙ at);
    }

-- the whole tree with that node changed
pub body_changed : (s : Source) (top : Forest) (n : ℕ) (spot : Spot) (change : Body → Body) → s.tree ≡ node 0 Root top none → (b : Below s top n spot) →
    with_body n change s.tree ≡ node 0 Root (plug b.found.around (node n (change spot.body) spot.kids b.found.rest)) none
body_changed s top n spot change rooted b = ap (with_body n change) rooted ∙ with_body-root n change top b.other ∙ ap (λ t. node 0 Root t none) (b.found.body change)

pub kids_changed : (s : Source) (top : Forest) (n : ℕ) (spot : Spot) (change : Forest → Forest) → s.tree ≡ node 0 Root top none → (b : Below s top n spot) →
    with_kids n change s.tree ≡ node 0 Root (plug b.found.around (node n spot.body (change spot.kids) b.found.rest)) none
kids_changed s top n spot change rooted b = ap (with_kids n change) rooted ∙ with_kids-root n change top b.other ∙ ap (λ t. node 0 Root t none) (b.found.kids change)

pub whole : (s : Source) (top : Forest) (n : ℕ) (spot : Spot) → s.tree ≡ node 0 Root top none → (b : Below s top n spot) →
    s.tree ≡ node 0 Root (plug b.found.around (node n spot.body spot.kids b.found.rest)) none
whole s top n spot rooted b = rooted ∙ ap (λ t. node 0 Root t none) b.found.whole

-- what stands around a node is found under its number
first_some : (o p : Option Spot) (spot : Spot) → o ≡ Some spot → or_else o p ≡ Some spot
first_some o p spot e = ap (λ q. or_else q p) e

second_some : (o p : Option Spot) (spot : Spot) → o ≡ None → p ≡ Some spot → or_else o p ≡ Some spot
second_some o p spot e q = ap (λ z. or_else z p) e ∙ q

pub spot-plug : (a : Around) (up : Option ℕ) (n : ℕ) (body : Body) (kids rest : Forest) → uses n (plug a (node n body kids rest)) ≤ 1 →
    (above : Option ℕ) × (spot_in up n (plug a (node n body kids rest)) ≡ Some (record { up = above; body = body; kids = kids }))
spot-plug Around.here up n body kids rest once = (up, at_same n n (Some (record { up = up; body = body; kids = kids })) (or_else (spot_in (Some n) n kids) (spot_in up n rest)) refl)
spot-plug (below k b a others) up n body kids rest once =
    let own = count_same n n refl in
    let part = uses-le-plug n a (node n body kids rest) in
    let o = other_number n k (uses n (plug a (node n body kids rest))) (uses n others) (omega (arith, own, part)) once in
    let inner : Forest = plug a (node n body kids rest) in
    let h = spot-plug a (Some k) n body kids rest o.1 in
    let spot : Spot = record { up = h.0; body = body; kids = kids } in
    (h.0, at_other n k (Some (record { up = up; body = b; kids = inner })) (or_else (spot_in (Some k) n inner) (spot_in up n others)) (λ e. o.0 (sym e)) ∙ first_some (spot_in (Some k) n inner) (spot_in up n others) spot h.1)
spot-plug (beside k b inner a) up n body kids rest once =
    let own = count_same n n refl in
    let part = uses-le-plug n a (node n body kids rest) in
    let o = other_behind n k (uses n inner) (uses n (plug a (node n body kids rest))) (omega (arith, own, part)) once in
    let later : Forest = plug a (node n body kids rest) in
    let h = spot-plug a up n body kids rest o.2 in
    let spot : Spot = record { up = h.0; body = body; kids = kids } in (
      h.0,
      at_other n k (Some (record { up = up; body = b; kids = inner })) (or_else (spot_in (Some k) n inner) (spot_in up n later)) (λ e. o.0 (sym e))
          ∙ second_some (spot_in (Some k) n inner) (spot_in up n later) spot (spot_in-unused (Some k) n inner o.1) h.1,
    )

-- so it is in a source whose tree is that
pub spot_after : (tree : Forest) (a : Around) (n : ℕ) (body : Body) (kids rest : Forest) → tree ≡ node 0 Root (plug a (node n body kids rest)) none → uses n tree ≤ 1 →
    (above : Option ℕ) × (spot_in None n tree ≡ Some (record { up = above; body = body; kids = kids }))
spot_after tree a n body kids rest is once =
    let h = spot-plug (below 0 Root a none) None n body kids rest (subst (λ t. uses n t ≤ 1) is once) in
    (h.0, ap (spot_in None n) is ∙ h.1)

-- what holds of all holds at a node
pub AreLeaves-at : (a : Around) (f : Forest) → (f ≡ none → ⊥) → AreLeaves (plug a f) → AreLeaves f
AreLeaves-at Around.here f some h = h
AreLeaves-at (below k Root a rest) f some h = absurd h
AreLeaves-at (below k (Element name attributes) a rest) f some h = AreLeaves-at a f some h.0
AreLeaves-at (below k (Text text) a rest) f some h = absurd (plug-some a f some h.0)
AreLeaves-at (below k (Comment text) a rest) f some h = absurd (plug-some a f some h.0)
AreLeaves-at (beside k Root kids a) f some h = absurd h
AreLeaves-at (beside k (Element name attributes) kids a) f some h = AreLeaves-at a f some h.1
AreLeaves-at (beside k (Text text) kids a) f some h = AreLeaves-at a f some h.1
AreLeaves-at (beside k (Comment text) kids a) f some h = AreLeaves-at a f some h.1

pub AreShort-at : (a : Around) (f : Forest) → AreShort (plug a f) → AreShort f
AreShort-at Around.here f h = h
AreShort-at (below k Root a rest) f h = AreShort-at a f h.0
AreShort-at (below k (Element name attributes) a rest) f h = AreShort-at a f h.1
AreShort-at (below k (Text text) a rest) f h = AreShort-at a f h.1
AreShort-at (below k (Comment text) a rest) f h = AreShort-at a f h.0
AreShort-at (beside k Root kids a) f h = AreShort-at a f h.1
AreShort-at (beside k (Element name attributes) kids a) f h = AreShort-at a f h.2
AreShort-at (beside k (Text text) kids a) f h = AreShort-at a f h.2
AreShort-at (beside k (Comment text) kids a) f h = AreShort-at a f h.1

-- the spot of a text
characters_text : (b : Body) (text : List ℕ) → characters b ≡ Some text → b ≡ Text text
characters_text Root text e = cc
characters_text (Element name attributes) text e = cc
characters_text (Text t) text e = ap Text (same_Some t text e)
characters_text (Comment t) text e = cc

text_spot : (o : Option Spot) (text : List ℕ) → option_and_then (λ (s : Spot). characters s.body) o ≡ Some text →
    (up : Option ℕ) × (kids : Forest) × (o ≡ Some (record { up = up; body = Text text; kids = kids }))
text_spot None text e = cc
text_spot (Some spot) text e = (spot.up, spot.kids, ap (λ b. Some (record { up = spot.up; body = b; kids = spot.kids })) (characters_text spot.body text e))

pub spot_text : (source : Source) (n : ℕ) (text : List ℕ) → text_at source n ≡ Some text →
    (up : Option ℕ) × (kids : Forest) × (spot_of source n ≡ Some (record { up = up; body = Text text; kids = kids }))
spot_text source n text e = text_spot (spot_of source n) text e

-- the spot of an element
pub record ElementAt (source : Source) (n : ℕ) (kids : Forest) : Type 0 where
  pub up : Option ℕ
  pub name : NameId
  pub pairs : List AttrPair
  pub there : spot_of source n ≡ Some (record { up = up; body = Element name pairs; kids = kids })
  pub are : pairs_at source n ≡ pairs

pub element_body : (b : Body) → IsElement b → (name : NameId) × (attributes : List AttrPair) × (b ≡ Element name attributes)
element_body Root is = absurd is
element_body (Element name attributes) is = (name, attributes, refl)
element_body (Text t) is = absurd is
element_body (Comment t) is = absurd is

pub element_spot : (source : Source) (n : ℕ) (spot : Spot) → spot_of source n ≡ Some spot → IsElement spot.body → ElementAt source n spot.kids
element_spot source n spot e is =
    let b = element_body spot.body is in
    let at : spot_of source n ≡ Some (record { up = spot.up; body = Element b.0 b.1; kids = spot.kids }) = e ∙ ap (λ body. Some (record { up = spot.up; body = body; kids = spot.kids })) b.2 in
    record {
      up = spot.up;
      name = b.0;
      pairs = b.1;
      there = at;
      are = ap (λ o. option_map_or (λ (s : Spot). pairs_of s.body) o []) at;
    }

-- what is under a node of a source without document nodes below
pub leaves_inside : (n : ℕ) (body : Body) (kids rest : Forest) → AreLeaves (node n body kids rest) → AreLeaves kids × AreLeaves rest
leaves_inside n Root kids rest leaves = absurd leaves
leaves_inside n (Element name attributes) kids rest leaves = leaves
leaves_inside n (Text text) kids rest leaves = (subst AreLeaves (sym leaves.0) tt, leaves.1)
leaves_inside n (Comment text) kids rest leaves = (subst AreLeaves (sym leaves.0) tt, leaves.1)
