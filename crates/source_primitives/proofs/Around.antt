-- A forest around one of its nodes: what holds of the whole follows from what holds where the node stands.
use Rattle.std.proofs.Common.{◌≡◌, ℕ, ◌+◌, ◌==◌, ◌<◌, ◌≤◌, ◌⊎◌, inl, inr, List, ◌∷◌, Option, Some, None, if◌then◌else◌, refl, sym, ap, ◌∙◌, subst, arith}
use Rattle.std.proofs.lemmas.Bool.{cases_eq, ne_eqb, eq-eqb}
use Rattle.std.proofs.lemmas.Option.{same_Some}
use Rattle.serna_kinds.specs.Names.{NameParts}
use Rattle.source_model.specs.Source.{Body, Root, Element, Text, Comment, Forest, none, node, numbers}
use Rattle.source_model.specs.Cells.{Spot, or_else, spot_in}
use Rattle.source_model.specs.Changes.{with_body, with_kids}
use Rattle.source_model.specs.Proper.{uses, depth_of, BeginsNoText, AreNodes, AreComments, IsTop}
use Rattle.source_model.specs.Consistent.{AreLeaves, AreShort}

-- tests of numbers
pub at_same : {A : Type 0} (n k : ℕ) (x y : A) → n ≡ k → (if n == k then x else y) ≡ x
at_same n k x y e = ap (λ b. if b then x else y) (eq-eqb n k e)

pub at_other : {A : Type 0} (n k : ℕ) (x y : A) → (n ≡ k → ⊥) → (if n == k then x else y) ≡ y
at_other n k x y e = ap (λ b. if b then x else y) (ne_eqb n k e)

pub count_same : (n k : ℕ) → n ≡ k → ◌≡◌ {A = ℕ} (if n == k then 1 else 0) 1
count_same n k e = at_same {A = ℕ} n k 1 0 e

pub count_other : (n k : ℕ) → (n ≡ k → ⊥) → ◌≡◌ {A = ℕ} (if n == k then 1 else 0) 0
count_other n k e = at_other {A = ℕ} n k 1 0 e

-- the neighbours and the nodes above one place, where a forest belongs
pub data Around : Type 0 where
  here : Around
  below : ℕ → Body → Around → Forest → Around
  beside : ℕ → Body → Forest → Around → Around

abbrev pub plug : Around → Forest → Forest
plug here f = f
plug (below k body a rest) f = node k body (plug a f) rest
plug (beside k body kids a) f = node k body kids (plug a f)

pub plug-some : (a : Around) (f : Forest) → (f ≡ none → ⊥) → plug a f ≡ none → ⊥
plug-some here f some e = some e
plug-some (below k body a rest) f some e = cc
plug-some (beside k body kids a) f some e = cc

pub uses-plug : (n : ℕ) (a : Around) (f g : Forest) → uses n (plug a g) + uses n f ≡ uses n (plug a f) + uses n g
uses-plug n here f g = omega arith
uses-plug n (below k body a rest) f g = let h = uses-plug n a f g in omega (arith, h)
uses-plug n (beside k body kids a) f g = let h = uses-plug n a f g in omega (arith, h)

pub uses-le-plug : (n : ℕ) (a : Around) (f : Forest) → uses n f ≤ uses n (plug a f)
uses-le-plug n here f = omega arith
uses-le-plug n (below k body a rest) f = let h = uses-le-plug n a f in omega (arith, h)
uses-le-plug n (beside k body kids a) f = let h = uses-le-plug n a f in omega (arith, h)

pub numbers-plug : (a : Around) (f g : Forest) → numbers g ≡ numbers f → numbers (plug a g) ≡ numbers (plug a f)
numbers-plug here f g e = e
numbers-plug (below k body a rest) f g e = refl
numbers-plug (beside k body kids a) f g e = ap (λ ns. k ∷ ns) (numbers-plug a f g e)

pub depth_of-plug : (a : Around) (f g : Forest) → depth_of g ≤ depth_of f → depth_of (plug a g) ≤ depth_of (plug a f)
depth_of-plug here f g h = h
depth_of-plug (below k Root a rest) f g h = let i = depth_of-plug a f g h in omega (arith, i)
depth_of-plug (below k (Element name attributes) a rest) f g h = let i = depth_of-plug a f g h in omega (arith, i)
depth_of-plug (below k (Text text) a rest) f g h = let i = depth_of-plug a f g h in omega (arith, i)
depth_of-plug (below k (Comment text) a rest) f g h = let i = depth_of-plug a f g h in omega (arith, i)
depth_of-plug (beside k Root kids a) f g h = let i = depth_of-plug a f g h in omega (arith, i)
depth_of-plug (beside k (Element name attributes) kids a) f g h = let i = depth_of-plug a f g h in omega (arith, i)
depth_of-plug (beside k (Text text) kids a) f g h = let i = depth_of-plug a f g h in omega (arith, i)
depth_of-plug (beside k (Comment text) kids a) f g h = let i = depth_of-plug a f g h in omega (arith, i)

pub AreLeaves-plug : (a : Around) (f g : Forest) → (f ≡ none → ⊥) → (AreLeaves f → AreLeaves g) → AreLeaves (plug a f) → AreLeaves (plug a g)
AreLeaves-plug here f g some own h = own h
AreLeaves-plug (below k Root a rest) f g some own h = h
AreLeaves-plug (below k (Element name attributes) a rest) f g some own h = (AreLeaves-plug a f g some own h.0, h.1)
AreLeaves-plug (below k (Text text) a rest) f g some own h = absurd (plug-some a f some h.0)
AreLeaves-plug (below k (Comment text) a rest) f g some own h = absurd (plug-some a f some h.0)
AreLeaves-plug (beside k Root kids a) f g some own h = h
AreLeaves-plug (beside k (Element name attributes) kids a) f g some own h = (h.0, AreLeaves-plug a f g some own h.1)
AreLeaves-plug (beside k (Text text) kids a) f g some own h = (h.0, AreLeaves-plug a f g some own h.1)
AreLeaves-plug (beside k (Comment text) kids a) f g some own h = (h.0, AreLeaves-plug a f g some own h.1)

pub AreShort-plug : (a : Around) (f g : Forest) → (AreShort f → AreShort g) → AreShort (plug a f) → AreShort (plug a g)
AreShort-plug here f g own h = own h
AreShort-plug (below k Root a rest) f g own h = (AreShort-plug a f g own h.0, h.1)
AreShort-plug (below k (Element name attributes) a rest) f g own h = (h.0, AreShort-plug a f g own h.1, h.2)
AreShort-plug (below k (Text text) a rest) f g own h = (h.0, AreShort-plug a f g own h.1, h.2)
AreShort-plug (below k (Comment text) a rest) f g own h = (AreShort-plug a f g own h.0, h.1)
AreShort-plug (beside k Root kids a) f g own h = (h.0, AreShort-plug a f g own h.1)
AreShort-plug (beside k (Element name attributes) kids a) f g own h = (h.0, h.1, AreShort-plug a f g own h.2)
AreShort-plug (beside k (Text text) kids a) f g own h = (h.0, h.1, AreShort-plug a f g own h.2)
AreShort-plug (beside k (Comment text) kids a) f g own h = (h.0, AreShort-plug a f g own h.1)

BeginsNoText-plug : (a : Around) (f g : Forest) → (BeginsNoText f → BeginsNoText g) → BeginsNoText (plug a f) → BeginsNoText (plug a g)
BeginsNoText-plug here f g own h = own h
BeginsNoText-plug (below k Root a rest) f g own h = h
BeginsNoText-plug (below k (Element name attributes) a rest) f g own h = h
BeginsNoText-plug (below k (Text text) a rest) f g own h = h
BeginsNoText-plug (below k (Comment text) a rest) f g own h = h
BeginsNoText-plug (beside k Root kids a) f g own h = h
BeginsNoText-plug (beside k (Element name attributes) kids a) f g own h = h
BeginsNoText-plug (beside k (Text text) kids a) f g own h = h
BeginsNoText-plug (beside k (Comment text) kids a) f g own h = h

pub AreNodes-plug : (names : List NameParts) (a : Around) (f g : Forest) → (f ≡ none → ⊥) → (BeginsNoText f → BeginsNoText g) → (AreNodes names f → AreNodes names g) →
    AreNodes names (plug a f) → AreNodes names (plug a g)
AreNodes-plug names here f g some begins own h = own h
AreNodes-plug names (below k Root a rest) f g some begins own h = h
AreNodes-plug names (below k (Element name attributes) a rest) f g some begins own h = (h.0, h.1, AreNodes-plug names a f g some begins own h.2, h.3)
AreNodes-plug names (below k (Text text) a rest) f g some begins own h = absurd (plug-some a f some h.2)
AreNodes-plug names (below k (Comment text) a rest) f g some begins own h = absurd (plug-some a f some h.0)
AreNodes-plug names (beside k Root kids a) f g some begins own h = h
AreNodes-plug names (beside k (Element name attributes) kids a) f g some begins own h = (h.0, h.1, h.2, AreNodes-plug names a f g some begins own h.3)
AreNodes-plug names (beside k (Text text) kids a) f g some begins own h = (h.0, h.1, h.2, BeginsNoText-plug a f g begins h.3, AreNodes-plug names a f g some begins own h.4)
AreNodes-plug names (beside k (Comment text) kids a) f g some begins own h = (h.0, AreNodes-plug names a f g some begins own h.1)

AreComments-plug : (a : Around) (f g : Forest) → (AreComments f → AreComments g) → AreComments (plug a f) → AreComments (plug a g)
AreComments-plug here f g own h = own h
AreComments-plug (below k Root a rest) f g own h = h
AreComments-plug (below k (Element name attributes) a rest) f g own h = h
AreComments-plug (below k (Text text) a rest) f g own h = h
AreComments-plug (below k (Comment text) a rest) f g own h = h
AreComments-plug (beside k Root kids a) f g own h = h
AreComments-plug (beside k (Element name attributes) kids a) f g own h = h
AreComments-plug (beside k (Text text) kids a) f g own h = h
AreComments-plug (beside k (Comment text) kids a) f g own h = AreComments-plug a f g own h

pub IsTop-plug : (a : Around) (f g : Forest) → (IsTop f → IsTop g) → (AreComments f → AreComments g) → IsTop (plug a f) → IsTop (plug a g)
IsTop-plug here f g own comments h = own h
IsTop-plug (below k Root a rest) f g own comments h = h
IsTop-plug (below k (Element name attributes) a rest) f g own comments h = h
IsTop-plug (below k (Text text) a rest) f g own comments h = h
IsTop-plug (below k (Comment text) a rest) f g own comments h = h
IsTop-plug (beside k Root kids a) f g own comments h = h
IsTop-plug (beside k (Element name attributes) kids a) f g own comments h = AreComments-plug a f g comments h
IsTop-plug (beside k (Text text) kids a) f g own comments h = h
IsTop-plug (beside k (Comment text) kids a) f g own comments h = IsTop-plug a f g own comments h

-- a number that stands nowhere in a node with all below and behind it
not_here : (n k x y : ℕ) → (if n == k then 1 else 0) + x + y ≡ 0 → (n ≡ k → ⊥) × (x ≡ 0) × (y ≡ 0)
not_here n k x y e = (λ same. let own = count_same n k same in absurd (omega (arith, own, e)), omega (arith, e), omega (arith, e))

pub outside_node : (n k : ℕ) (body : Body) (kids rest : Forest) → uses n (node k body kids rest) ≡ 0 → (n ≡ k → ⊥) × (uses n kids ≡ 0) × (uses n rest ≡ 0)
outside_node n k body kids rest e = not_here n k (uses n kids) (uses n rest) e

pub with_body-outside : (n : ℕ) (change : Body → Body) (f : Forest) → uses n f ≡ 0 → with_body n change f ≡ f
with_body-outside n change none e = refl
with_body-outside n change (node k body kids rest) e =
    let out = outside_node n k body kids rest e in
    ap (λ b. node k b (with_body n change kids) (with_body n change rest)) (at_other n k (change body) body out.0)
    ∙ ap (λ f. node k body f (with_body n change rest)) (with_body-outside n change kids out.1)
    ∙ ap (node k body kids) (with_body-outside n change rest out.2)

pub with_kids-outside : (n : ℕ) (change : Forest → Forest) (f : Forest) → uses n f ≡ 0 → with_kids n change f ≡ f
with_kids-outside n change none e = refl
with_kids-outside n change (node k body kids rest) e =
    let out = outside_node n k body kids rest e in
    ap (λ f. node k body f (with_kids n change rest)) (at_other n k (change kids) (with_kids n change kids) out.0 ∙ with_kids-outside n change kids out.1)
    ∙ ap (node k body kids) (with_kids-outside n change rest out.2)

-- a number stands in a forest if and only if it has a spot there
pub either_spot : (o p : Option Spot) (spot : Spot) → or_else o p ≡ Some spot → (o ≡ Some spot) ⊎ (p ≡ Some spot)
either_spot None p spot e = inr e
either_spot (Some x) p spot e = inl e

pub spot_used : (up : Option ℕ) (n : ℕ) (f : Forest) (spot : Spot) → spot_in up n f ≡ Some spot → 0 < uses n f
spot_used up n none spot e = cc
spot_used up n (node k body kids rest) spot e = elim (cases_eq n k) [
  | inl same ↦ let own = count_same n k same in omega (arith, own)
  | inr other ↦ elim (either_spot (spot_in (Some k) n kids) (spot_in up n rest) spot (sym (at_other n k _ _ other) ∙ e)) [
    | inl inner ↦ let h = spot_used (Some k) n kids spot inner in omega (arith, h)
    | inr later ↦ let h = spot_used up n rest spot later in omega (arith, h)
  ]
]

spot_or : (o p : Option Spot) → ((spot : Spot) × (p ≡ Some spot)) → (spot : Spot) × (or_else o p ≡ Some spot)
spot_or None p h = h
spot_or (Some x) p h = (x, refl)

spot_first : (o p : Option Spot) → ((spot : Spot) × (o ≡ Some spot)) → (spot : Spot) × (or_else o p ≡ Some spot)
spot_first None p h = let e = h.1 in cc
spot_first (Some x) p h = (x, refl)

some_of_two : (x y : ℕ) → 0 < x + y → (0 < x) ⊎ (0 < y)
some_of_two x y h = elim (cases_eq x 0) [ inl e ↦ inr (omega arith) | inr e ↦ inl (omega arith) ]

pub used_spot : (up : Option ℕ) (n : ℕ) (f : Forest) → 0 < uses n f → (spot : Spot) × (spot_in up n f ≡ Some spot)
used_spot up n none h = absurd (omega (arith, h))
used_spot up n (node k body kids rest) h = elim (cases_eq n k) [
  | inl same ↦ (record { up = up; body = body; kids = kids }, at_same n k _ _ same)
  | inr other ↦
      let own = count_other n k other in
      let p : (spot : Spot) × (or_else (spot_in (Some k) n kids) (spot_in up n rest) ≡ Some spot) = elim (some_of_two (uses n kids) (uses n rest) (omega (arith, own, h))) [
        | inl inner ↦ spot_first (spot_in (Some k) n kids) (spot_in up n rest) (used_spot (Some k) n kids inner)
        | inr later ↦ spot_or (spot_in (Some k) n kids) (spot_in up n rest) (used_spot up n rest later)
      ] in
      (p.0, at_other n k _ _ other ∙ p.1)
]

-- a forest around its one node of a number, and the changes of that node
pub record Found (n : ℕ) (spot : Spot) (f : Forest) : Type 0 where
  pub around : Around
  pub rest : Forest
  pub whole : f ≡ plug around (node n spot.body spot.kids rest)
  pub body : (change : Body → Body) → with_body n change f ≡ plug around (node n (change spot.body) spot.kids rest)
  pub kids : (change : Forest → Forest) → with_kids n change f ≡ plug around (node n spot.body (change spot.kids) rest)

found_here : (up : Option ℕ) (n k : ℕ) (body : Body) (kids rest : Forest) (spot : Spot) → n ≡ k → uses n kids ≡ 0 → uses n rest ≡ 0 →
    spot_in up n (node k body kids rest) ≡ Some spot → Found n spot (node k body kids rest)
found_here up n k body kids rest spot same inner later e =
    let own : Spot = record { up = up; body = body; kids = kids } in
    let is : own ≡ spot = same_Some own spot (sym (at_same n k (Some own) _ same) ∙ e) in
    let found : Found n own (node k body kids rest) = record {
      around = here;
      rest = rest;
      whole = ap (λ m. node m body kids rest) (sym same);
      body = λ change.
          ap (λ m. node m (if n == k then change body else body) (with_body n change kids) (with_body n change rest)) (sym same)
          ∙ ap (λ b. node n b (with_body n change kids) (with_body n change rest)) (at_same n k (change body) body same)
          ∙ ap (λ f. node n (change body) f (with_body n change rest)) (with_body-outside n change kids inner)
          ∙ ap (node n (change body) kids) (with_body-outside n change rest later);
      kids = λ change.
          ap (λ m. node m body (if n == k then change kids else with_kids n change kids) (with_kids n change rest)) (sym same)
          ∙ ap (λ f. node n body f (with_kids n change rest)) (at_same n k (change kids) (with_kids n change kids) same)
          ∙ ap (node n body (change kids)) (with_kids-outside n change rest later);
    } in
    subst (λ s. Found n s (node k body kids rest)) is found

found_below : (n k : ℕ) (body : Body) (kids rest : Forest) (spot : Spot) → (n ≡ k → ⊥) → uses n rest ≡ 0 → Found n spot kids → Found n spot (node k body kids rest)
found_below n k body kids rest spot other later i = record {
  around = below k body i.around rest;
  rest = i.rest;
  whole = ap (λ f. node k body f rest) i.whole;
  body = λ change.
      ap (λ b. node k b (with_body n change kids) (with_body n change rest)) (at_other n k (change body) body other)
      ∙ ap (λ f. node k body f (with_body n change rest)) (i.body change)
      ∙ ap (node k body (plug i.around (node n (change spot.body) spot.kids i.rest))) (with_body-outside n change rest later);
  kids = λ change.
      ap (λ f. node k body f (with_kids n change rest)) (at_other n k (change kids) (with_kids n change kids) other ∙ i.kids change)
      ∙ ap (node k body (plug i.around (node n spot.body (change spot.kids) i.rest))) (with_kids-outside n change rest later);
}

found_beside : (n k : ℕ) (body : Body) (kids rest : Forest) (spot : Spot) → (n ≡ k → ⊥) → uses n kids ≡ 0 → Found n spot rest → Found n spot (node k body kids rest)
found_beside n k body kids rest spot other inner i = record {
  around = beside k body kids i.around;
  rest = i.rest;
  whole = ap (node k body kids) i.whole;
  body = λ change.
      ap (λ b. node k b (with_body n change kids) (with_body n change rest)) (at_other n k (change body) body other)
      ∙ ap (λ f. node k body f (with_body n change rest)) (with_body-outside n change kids inner)
      ∙ ap (node k body kids) (i.body change);
  kids = λ change.
      ap (λ f. node k body f (with_kids n change rest)) (at_other n k (change kids) (with_kids n change kids) other ∙ with_kids-outside n change kids inner)
      ∙ ap (node k body kids) (i.kids change);
}

pub found : (up : Option ℕ) (n : ℕ) (f : Forest) (spot : Spot) → uses n f ≤ 1 → spot_in up n f ≡ Some spot → Found n spot f
found up n none spot once e = cc
found up n (node k body kids rest) spot once e = elim (cases_eq n k) [
  | inl same ↦ let own = count_same n k same in found_here up n k body kids rest spot same (omega (arith, own, once)) (omega (arith, own, once)) e
  | inr other ↦ elim (either_spot (spot_in (Some k) n kids) (spot_in up n rest) spot (sym (at_other n k _ _ other) ∙ e)) [
    | inl inner ↦
        let used = spot_used (Some k) n kids spot inner in
        found_below n k body kids rest spot other (omega (arith, used, once)) (found (Some k) n kids spot (omega (arith, once)) inner)
    | inr later ↦
        let used = spot_used up n rest spot later in
        found_beside n k body kids rest spot other (omega (arith, used, once)) (found up n rest spot (omega (arith, once)) later)
  ]
]

-- a number that stands somewhere below or beside a node stands nowhere else
pub other_number : (n k x y : ℕ) → 0 < x → (if n == k then 1 else 0) + x + y ≤ 1 → (k ≡ n → ⊥) × (x ≤ 1) × (y ≡ 0)
other_number n k x y some once = (λ e. let own = count_same n k (sym e) in absurd (omega (arith, own, some, once)), omega (arith, once), omega (arith, some, once))

pub other_behind : (n k x y : ℕ) → 0 < y → (if n == k then 1 else 0) + x + y ≤ 1 → (k ≡ n → ⊥) × (x ≡ 0) × (y ≤ 1)
other_behind n k x y some once = (λ e. let own = count_same n k (sym e) in absurd (omega (arith, own, some, once)), omega (arith, some, once), omega (arith, once))

pub or_else-none : (o : Option Spot) → or_else o None ≡ o
or_else-none None = refl
or_else-none (Some spot) = refl

-- changes below the document node
pub with_body-root : (n : ℕ) (change : Body → Body) (top : Forest) → (n ≡ 0 → ⊥) → with_body n change (node 0 Root top none) ≡ node 0 Root (with_body n change top) none
with_body-root n change top other = ap (λ b. node 0 b (with_body n change top) none) (at_other n 0 (change Root) Root other)

pub with_kids-root : (n : ℕ) (change : Forest → Forest) (top : Forest) → (n ≡ 0 → ⊥) → with_kids n change (node 0 Root top none) ≡ node 0 Root (with_kids n change top) none
with_kids-root n change top other = ap (λ f. node 0 Root f none) (at_other n 0 (change top) (with_kids n change top) other)

-- the changes of the one node of a number, where that node stands
pub with_kids-plug : (a : Around) (n : ℕ) (body : Body) (kids rest : Forest) (change : Forest → Forest) → uses n (plug a (node n body none rest)) ≤ 1 →
    with_kids n change (plug a (node n body kids rest)) ≡ plug a (node n body (change kids) rest)
with_kids-plug here n body kids rest change once =
    let own = count_same n n refl in
    ap (λ f. node n body f (with_kids n change rest)) (at_same n n (change kids) (with_kids n change kids) refl)
    ∙ ap (node n body (change kids)) (with_kids-outside n change rest (omega (arith, own, once)))
with_kids-plug (below k b a others) n body kids rest change once =
    let own = count_same n n refl in
    let part = uses-le-plug n a (node n body none rest) in
    let o = other_number n k (uses n (plug a (node n body none rest))) (uses n others) (omega (arith, own, part)) once in
    let inner : Forest = plug a (node n body kids rest) in
    ap (λ f. node k b f (with_kids n change others)) (at_other n k (change inner) (with_kids n change inner) (λ e. o.0 (sym e)) ∙ with_kids-plug a n body kids rest change o.1)
    ∙ ap (node k b (plug a (node n body (change kids) rest))) (with_kids-outside n change others o.2)
with_kids-plug (beside k b inner a) n body kids rest change once =
    let own = count_same n n refl in
    let part = uses-le-plug n a (node n body none rest) in
    let o = other_behind n k (uses n inner) (uses n (plug a (node n body none rest))) (omega (arith, own, part)) once in
    ap (λ f. node k b f (with_kids n change (plug a (node n body kids rest)))) (at_other n k (change inner) (with_kids n change inner) (λ e. o.0 (sym e)) ∙ with_kids-outside n change inner o.1)
    ∙ ap (node k b inner) (with_kids-plug a n body kids rest change o.2)

pub with_body-plug : (a : Around) (n : ℕ) (body : Body) (kids rest : Forest) (change : Body → Body) → uses n (plug a (node n body kids rest)) ≤ 1 →
    with_body n change (plug a (node n body kids rest)) ≡ plug a (node n (change body) kids rest)
with_body-plug here n body kids rest change once =
    let own = count_same n n refl in
    ap (λ b. node n b (with_body n change kids) (with_body n change rest)) (at_same n n (change body) body refl)
    ∙ ap (λ f. node n (change body) f (with_body n change rest)) (with_body-outside n change kids (omega (arith, own, once)))
    ∙ ap (node n (change body) kids) (with_body-outside n change rest (omega (arith, own, once)))
with_body-plug (below k b a others) n body kids rest change once =
    let own = count_same n n refl in
    let part = uses-le-plug n a (node n body kids rest) in
    let o = other_number n k (uses n (plug a (node n body kids rest))) (uses n others) (omega (arith, own, part)) once in
    let inner : Forest = plug a (node n body kids rest) in
    ap (λ c. node k c (with_body n change inner) (with_body n change others)) (at_other n k (change b) b (λ e. o.0 (sym e)))
    ∙ ap (λ f. node k b f (with_body n change others)) (with_body-plug a n body kids rest change o.1)
    ∙ ap (node k b (plug a (node n (change body) kids rest))) (with_body-outside n change others o.2)
with_body-plug (beside k b inner a) n body kids rest change once =
    let own = count_same n n refl in
    let part = uses-le-plug n a (node n body kids rest) in
    let o = other_behind n k (uses n inner) (uses n (plug a (node n body kids rest))) (omega (arith, own, part)) once in
    let later : Forest = plug a (node n body kids rest) in
    ap (λ c. node k c (with_body n change inner) (with_body n change later)) (at_other n k (change b) b (λ e. o.0 (sym e)))
    ∙ ap (λ f. node k b f (with_body n change later)) (with_body-outside n change inner o.1)
    ∙ ap (node k b inner) (with_body-plug a n body kids rest change o.2)
