-- The entries at and below a node, and those of its children: what a walk from a node's Kids sees of the enumeration.
use Rattle.std.proofs.Common.{◌≡◌, ℕ, suc, ◌≤◌, ◌&&◌, ◌⊎◌, inl, inr, Bool, true, false, List, [], ◌∷◌, ◌++◌, Option, Some, None, if◌then◌else◌, refl, sym, ap, ◌∙◌, arith}
use Rattle.std.proofs.lemmas.List.{append-nil}
use Rattle.std.proofs.lemmas.Bool.{cases_eq, ne_eqb, eq-eqb}
use Rattle.serna_kinds.specs.declared.cells.NodeRef.{NodeRef}
use Rattle.serna_kinds.specs.declared.cells.NodeRef.TheVariants as ref
use Rattle.serna_kinds.specs.declared.cells.AttrPair.{AttrPair}
use Rattle.source_model.specs.Source.{Body, Forest, none, node}
use Rattle.source_model.specs.Cells.{Spot, or_else, spot_in, named}
use Rattle.source_model.specs.Paths.{Path, Thing, Entry, entry, node_thing, attribute_thing, attribute_entries, deeper, entries, path_in, behind, same_step}
use Rattle.source_model.specs.Attributes.{pairs_of}
use Rattle.source_model.specs.Axes.{pick, is_step, down}
use Rattle.source_model.proofs.Spots.{if_same, if_other}

abbrev pub Passes : Type 0
Passes = Path → Thing → Bool

pub pick-append : (f : Passes) (xs ys : List Entry) → pick f (xs ++ ys) ≡ pick f xs ++ pick f ys
pick-append f [] ys = refl
pick-append f (e ∷ es) ys = by (f e.path e.thing) (pick-append f es ys)
  where
    by : (b : Bool) → pick f (es ++ ys) ≡ pick f es ++ pick f ys →
        (if b then e.thing.ref ∷ pick f (es ++ ys) else pick f (es ++ ys)) ≡ (if b then e.thing.ref ∷ pick f es else pick f es) ++ pick f ys
    by true h = ap (λ l. e.thing.ref ∷ l) h
    by false h = h

pub pick_same : (f g : Passes) → ((m : Path) (t : Thing) → f m t ≡ g m t) → (es : List Entry) → pick f es ≡ pick g es
pick_same f g same [] = refl
pick_same f g same (e ∷ es) = λ i. if same e.path e.thing i then e.thing.ref ∷ pick_same f g same es i else pick_same f g same es i

pub pick_false : (f : Passes) → ((m : Path) (t : Thing) → f m t ≡ false) → (es : List Entry) → pick f es ≡ []
pick_false f never [] = refl
pick_false f never (e ∷ es) = ap (λ b. if b then e.thing.ref ∷ pick f es else pick f es) (never e.path e.thing) ∙ pick_false f never es

pub pick_deeper : (f : Passes) (s : ℕ × ℕ) (es : List Entry) → pick f (deeper s es) ≡ pick (λ m. f (s ∷ m)) es
pick_deeper f s [] = refl
pick_deeper f s (e ∷ es) = ap (λ (l : List NodeRef). if f (s ∷ e.path) e.thing then e.thing.ref ∷ l else l) (pick_deeper f s es)

pub pick_attributes : (f : Passes) → ((j : ℕ) (t : Thing) → f ((0, j) ∷ []) t ≡ false) → (n i : ℕ) (pairs : List AttrPair) → pick f (attribute_entries n i pairs) ≡ []
pick_attributes f never n i [] = refl
pick_attributes f never n i (pair ∷ pairs) =
    ap (λ b. if b then ref.Attr (named n) pair.name ∷ pick f (attribute_entries n (suc i) pairs) else pick f (attribute_entries n (suc i) pairs)) (never i (attribute_thing n pair))
    ∙ pick_attributes f never n (suc i) pairs

-- a node itself, its attributes, and what is below it, by their paths from it
abbrev pub own : ℕ → Body → Forest → List Entry
own n body kids = entry [] (node_thing n body) ∷ (attribute_entries n 0 (pairs_of body) ++ entries 0 kids)

pub pick_node : (f : Passes) (i n : ℕ) (body : Body) (kids rest : Forest) →
    pick f (entries i (node n body kids rest)) ≡ pick (λ m. f ((1, i) ∷ m)) (own n body kids) ++ pick f (entries (suc i) rest)
pick_node f i n body kids rest =
    pick-append f (deeper (1, i) (own n body kids)) (entries (suc i) rest) ∙ ap (λ (l : List NodeRef). l ++ pick f (entries (suc i) rest)) (pick_deeper f (1, i) (own n body kids))

-- nothing is picked among neighbours from a place on where no path from there on passes
pub pick_later : (f : Passes) (j : ℕ) → ((k : ℕ) (m : Path) (t : Thing) → j ≤ k → f ((1, k) ∷ m) t ≡ false) → (forest : Forest) → pick f (entries j forest) ≡ []
pick_later f j never none = refl
pick_later f j never (node n body kids rest) =
    pick_node f j n body kids rest
    ∙ ap (λ (l : List NodeRef). l ++ pick f (entries (suc j) rest)) (pick_false (λ m. f ((1, j) ∷ m)) (λ m t. never j m t (omega arith)) (own n body kids))
    ∙ pick_later f (suc j) (λ k m t le. never k m t (omega (arith, le))) rest

-- what passes by its path behind another
abbrev pub downs : Passes → Path → Passes
downs f p m t = elim (behind p m) [ None ↦ false | Some q ↦ f q t ]

same_step-refl : (i : ℕ) → same_step (1, i) (1, i) ≡ true
same_step-refl i = eq-eqb i i refl

downs-same : (f : Passes) (i : ℕ) (p m : Path) (t : Thing) → downs f ((1, i) ∷ p) ((1, i) ∷ m) t ≡ downs f p m t
downs-same f i p m t = ap (λ b. elim (if b then behind p m else None) [ None ↦ false | Some q ↦ f q t ]) (same_step-refl i)

downs-other : (f : Passes) (i j : ℕ) (p m : Path) (t : Thing) → (i ≡ j → ⊥) → downs f ((1, i) ∷ p) ((1, j) ∷ m) t ≡ false
downs-other f i j p m t other = ap (λ b. elim (if b then behind p m else None) [ None ↦ false | Some q ↦ f q t ]) (ne_eqb i j other)

-- a node's path and spot belong together, and the entries at and below it are those whose path goes on from its own
pub record IsAt (up : Option ℕ) (n i : ℕ) (f : Forest) : Type 0 where
  pub place : ℕ
  pub more : Path
  pub spot : Spot
  pub path_is : path_in n i f ≡ Some ((1, place) ∷ more)
  pub spot_is : spot_in up n f ≡ Some spot
  pub later : i ≤ place
  pub below : (passes : Passes) → pick (downs passes ((1, place) ∷ more)) (entries i f) ≡ pick passes (own n spot.body spot.kids)

pub record IsGone (up : Option ℕ) (n i : ℕ) (f : Forest) : Type 0 where
  pub path_is : path_in n i f ≡ None
  pub spot_is : spot_in up n f ≡ None

at_own : (up : Option ℕ) (n i k : ℕ) (body : Body) (kids rest : Forest) → n ≡ k → IsAt up n i (node k body kids rest)
at_own up n i k body kids rest e = record {
  place = i;
  more = [];
  spot = record { up = up; body = body; kids = kids };
  path_is = if_same n k _ _ e;
  spot_is = if_same n k _ _ e;
  later = omega arith;
  below = λ passes.
      pick_node (downs passes ((1, i) ∷ [])) i k body kids rest
      ∙ ap (λ (l : List NodeRef). pick (λ m. downs passes ((1, i) ∷ []) ((1, i) ∷ m)) (own k body kids) ++ l)
      (pick_later (downs passes ((1, i) ∷ [])) (suc i) (λ j m t le. downs-other passes i j [] m t (λ e. absurd (omega (arith, le, e)))) rest)
      ∙ append-nil (pick (λ m. downs passes ((1, i) ∷ []) ((1, i) ∷ m)) (own k body kids))
      ∙ pick_same (λ m. downs passes ((1, i) ∷ []) ((1, i) ∷ m)) passes (λ m t. downs-same passes i [] m t) (own k body kids)
      ∙ ap (λ (j : ℕ). pick passes (own j body kids)) (sym e);
}

at_kids : (up : Option ℕ) (n i k : ℕ) (body : Body) (kids rest : Forest) → (n ≡ k → ⊥) → IsAt (Some k) n 0 kids → IsAt up n i (node k body kids rest)
at_kids up n i k body kids rest other at =
    let p : Path = (1, at.place) ∷ at.more in
    record {
      place = i;
      more = p;
      spot = at.spot;
      path_is = if_other n k _ _ other ∙ ap (λ (o : Option Path). elim o [ None ↦ path_in n (suc i) rest | Some path ↦ Some ((1, i) ∷ path) ]) at.path_is;
      spot_is = if_other n k _ _ other ∙ ap (λ (o : Option Spot). or_else o (spot_in up n rest)) at.spot_is;
      later = omega arith;
      below = λ passes.
          pick_node (downs passes ((1, i) ∷ p)) i k body kids rest
          ∙ ap (λ (l : List NodeRef). pick (λ m. downs passes ((1, i) ∷ p) ((1, i) ∷ m)) (own k body kids) ++ l)
          (pick_later (downs passes ((1, i) ∷ p)) (suc i) (λ j m t le. downs-other passes i j p m t (λ e. absurd (omega (arith, le, e)))) rest)
          ∙ append-nil (pick (λ m. downs passes ((1, i) ∷ p) ((1, i) ∷ m)) (own k body kids))
          ∙ pick_same (λ m. downs passes ((1, i) ∷ p) ((1, i) ∷ m)) (downs passes p) (λ m t. downs-same passes i p m t) (own k body kids)
          ∙ pick-append (downs passes p) (attribute_entries k 0 (pairs_of body)) (entries 0 kids)
          ∙ ap (λ (l : List NodeRef). l ++ pick (downs passes p) (entries 0 kids)) (pick_attributes (downs passes p) (λ j t. refl) k 0 (pairs_of body))
          ∙ at.below passes;
    }

at_rest : (up : Option ℕ) (n i k : ℕ) (body : Body) (kids rest : Forest) → (n ≡ k → ⊥) → IsGone (Some k) n 0 kids → IsAt up n (suc i) rest → IsAt up n i (node k body kids rest)
at_rest up n i k body kids rest other gone at =
    let p : Path = (1, at.place) ∷ at.more in
    let later : suc i ≤ at.place = at.later in
    record {
      place = at.place;
      more = at.more;
      spot = at.spot;
      path_is = if_other n k _ _ other ∙ ap (λ (o : Option Path). elim o [ None ↦ path_in n (suc i) rest | Some path ↦ Some ((1, i) ∷ path) ]) gone.path_is ∙ at.path_is;
      spot_is = if_other n k _ _ other ∙ ap (λ (o : Option Spot). or_else o (spot_in up n rest)) gone.spot_is ∙ at.spot_is;
      later = omega (arith, later);
      below = λ passes.
          pick_node (downs passes p) i k body kids rest
          ∙ ap (λ (l : List NodeRef). l ++ pick (downs passes p) (entries (suc i) rest))
          (pick_false (λ m. downs passes p ((1, i) ∷ m)) (λ m t. downs-other passes at.place i at.more m t (λ e. absurd (omega (arith, later, e)))) (own k body kids))
          ∙ at.below passes;
    }

pub gone_node : (up : Option ℕ) (n i k : ℕ) (body : Body) (kids rest : Forest) → (n ≡ k → ⊥) → IsGone (Some k) n 0 kids → IsGone up n (suc i) rest → IsGone up n i (node k body kids rest)
gone_node up n i k body kids rest other below behind = record {
  path_is = if_other n k _ _ other ∙ ap (λ (o : Option Path). elim o [ None ↦ path_in n (suc i) rest | Some path ↦ Some ((1, i) ∷ path) ]) below.path_is ∙ behind.path_is;
  spot_is = if_other n k _ _ other ∙ ap (λ (o : Option Spot). or_else o (spot_in up n rest)) below.spot_is ∙ behind.spot_is;
}

-- each number has a path and a spot, or neither
pub stands : (up : Option ℕ) (n i : ℕ) (f : Forest) → IsAt up n i f ⊎ IsGone up n i f
stands up n i none = inr (record { path_is = refl; spot_is = refl })
stands up n i (node k body kids rest) = elim (cases_eq n k) [
  | inl e ↦ inl (at_own up n i k body kids rest e)
  | inr other ↦ elim (stands (Some k) n 0 kids) [
    | inl at ↦ inl (at_kids up n i k body kids rest other at)
    | inr gone ↦ elim (stands up n (suc i) rest) [
      | inl at ↦ inl (at_rest up n i k body kids rest other gone at)
      | inr behind ↦ inr (gone_node up n i k body kids rest other gone behind)
    ]
  ]
]

-- the neighbours of a forest that pass, in order
abbrev pub heads : (Thing → Bool) → Forest → List NodeRef
heads passes none = []
heads passes (node n body kids rest) = (if passes (node_thing n body) then ref.Node (named n) ∷ [] else []) ++ heads passes rest

-- of entries by their paths from a node, those at one step to a child are its children
children_in_entries : (passes : Thing → Bool) (i : ℕ) (f : Forest) → pick (λ m t. is_step 1 m && passes t) (entries i f) ≡ heads passes f
children_in_entries passes i none = refl
children_in_entries passes i (node n body kids rest) =
    let f : Passes = λ m t. is_step 1 m && passes t in
    pick_node f i n body kids rest
    ∙ ap (λ (l : List NodeRef). (if passes (node_thing n body) then ref.Node (named n) ∷ l else l) ++ pick f (entries (suc i) rest))
    (pick-append (λ m. f ((1, i) ∷ m)) (attribute_entries n 0 (pairs_of body)) (entries 0 kids)
    ∙ ap (λ (l : List NodeRef). l ++ pick (λ m. f ((1, i) ∷ m)) (entries 0 kids)) (pick_attributes (λ m. f ((1, i) ∷ m)) (λ j t. refl) n 0 (pairs_of body))
    ∙ pick_later (λ m. f ((1, i) ∷ m)) 0 (λ k m t le. refl) kids)
    ∙ ap (λ (l : List NodeRef). (if passes (node_thing n body) then ref.Node (named n) ∷ [] else []) ++ l) (children_in_entries passes (suc i) rest)

pub children_of_own : (passes : Thing → Bool) (n : ℕ) (body : Body) (kids : Forest) → pick (λ m t. is_step 1 m && passes t) (own n body kids) ≡ heads passes kids
children_of_own passes n body kids =
    let f : Passes = λ m t. is_step 1 m && passes t in
    pick-append f (attribute_entries n 0 (pairs_of body)) (entries 0 kids)
    ∙ ap (λ (l : List NodeRef). l ++ pick f (entries 0 kids)) (pick_attributes f (λ j t. refl) n 0 (pairs_of body))
    ∙ children_in_entries passes 0 kids

-- the condition of the page is the one by what is behind a path
pub down-downs : (cond : Path → Bool) (passes : Thing → Bool) (n m : Path) (t : Thing) → (down cond n m && passes t) ≡ downs (λ q t. cond q && passes t) n m t
down-downs cond passes n m t = by (behind n m)
  where
    by : (o : Option Path) → (elim o [ None ↦ false | Some q ↦ cond q ] && passes t) ≡ elim o [ None ↦ false | Some q ↦ cond q && passes t ]
    by None = refl
    by (Some q) = refl
