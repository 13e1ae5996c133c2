-- The parts of a proper source: each node's spot, how deep it goes, and what a walk from the nodes of a part comes to.
use Rattle.std.proofs.Common.{◌≡◌, ℕ, zero, suc, ◌+◌, ◌<◌, ◌≤◌, ◌==◌, ◌++◌, max, Bool, List, [], ◌∷◌, map, Option, Some, None, if◌then◌else◌, refl, sym, ap, subst, ◌∙◌, arith}
use Rattle.std.specs.List.{AllByRecursion}
use Rattle.std.proofs.lemmas.List.{map-append}
use Rattle.std.proofs.lemmas.Bool.{ne_eqb, eq-eqb}
use Rattle.serna_kinds.specs.declared.cells.NodeName.{NodeName}
use Rattle.serna_kinds.specs.Names.{NameParts}
use Rattle.source_model.specs.Source.{Body, Root, Element, Text, Comment, Forest, none, node, Source, numbers}
use Rattle.source_model.specs.Cells.{Spot, spot_in, spot_of, named}
use Rattle.source_model.specs.Changes.{beside}
use Rattle.source_model.specs.Proper.{IsProper, AreNodes, uses, depth_of}
use Rattle.source_model.proofs.Spots.{if_same}
use Rattle.source_model.proofs.Below.{own_kids, HasOwnKids, in_kids, in_rest}
use Rattle.xpath_axes.specs.Nodes.{children_in, kids_at}
use Rattle.xpath_axes.specs.Walks.{below, before, after, levels}
use Rattle.xpath_axes.proofs.Ways.{all_in, heads_in}

abbrev pub node_name : ℕ × Body → NodeName
node_name w = named w.0

abbrev pub node_names : List (ℕ × Body) → List NodeName
node_names ws = map node_name ws

-- each node of a forest, whose parent is `up`, is found at its number
abbrev pub Placed : Source → Option ℕ → Forest → Type 0
Placed source up none = Unit {0}
Placed source up (node k body kids rest) = (spot_of source k ≡ Some (record { up = up; body = body; kids = kids })) × Placed source (Some k) kids × Placed source up rest

placed_in : (source : Source) (up : Option ℕ) (f : Forest) → ((m : ℕ) → uses m f ≤ 1) → ((m : ℕ) → 0 < uses m f → spot_in up m f ≡ spot_of source m) → Placed source up f
placed_in source up none once same = tt
placed_in source up (node n body kids rest) once same =
    let here : ◌≡◌ {A = ℕ} (if n == n then 1 else 0) 1 = if_same {A = ℕ} n n 1 0 refl in
    let below_once : (j : ℕ) → uses j kids ≤ 1 = λ j. let all = once j in omega (arith, all) in
    let behind_once : (j : ℕ) → uses j rest ≤ 1 = λ j. let all = once j in omega (arith, all) in (
      sym (same n (omega (arith, here))) ∙ if_same n n _ _ refl,
      placed_in source (Some n) kids below_once (λ m used. in_kids up m n body kids rest (once m) used ∙ same m (omega (arith, used))),
      placed_in source up rest behind_once (λ m used. in_rest up m n body kids rest (once m) used ∙ same m (omega (arith, used))),
    )

-- how many nodes stand in one another
abbrev pub height : Forest → ℕ
height none = 0
height (node n body kids rest) = max (suc (height kids)) (height rest)

pub height_depth : (names : List NameParts) (f : Forest) → AreNodes names f → height f ≤ suc (depth_of f)
height_depth names none nodes = omega arith
height_depth names (node n Root kids rest) nodes = absurd nodes
height_depth names (node n (Element name pairs) kids rest) nodes =
    let inner = height_depth names kids nodes.2 in
    let behind = height_depth names rest nodes.3 in
    omega (arith, inner, behind)
height_depth names (node n (Text text) kids rest) nodes =
    let inner : height kids ≡ 0 = ap height nodes.2 in
    let behind = height_depth names rest nodes.4 in
    omega (arith, inner, behind)
height_depth names (node n (Comment text) kids rest) nodes =
    let inner : height kids ≡ 0 = ap height nodes.0 in
    let behind = height_depth names rest nodes.1 in
    omega (arith, inner, behind)

-- a part of a proper source, whose nodes' parent is `up`
pub record Part (source : Source) (up : Option ℕ) (f : Forest) : Type 0 where
  pub placed : Placed source up f
  pub once : (m : ℕ) → uses m f ≤ 1
  pub low : height f ≤ levels

uses_beside : (m : ℕ) (before g : Forest) → uses m (beside before g) ≡ uses m before + uses m g
uses_beside m none g = omega arith
uses_beside m (node n body kids rest) g = let more = uses_beside m rest g in omega (arith, more)

pub height_beside : (before g : Forest) → height (beside before g) ≡ max (height before) (height g)
height_beside none g = omega arith
height_beside (node n body kids rest) g = let more = height_beside rest g in omega (arith, more)

placed_beside : (source : Source) (up : Option ℕ) (before g : Forest) → Placed source up (beside before g) → Placed source up before × Placed source up g
placed_beside source up none g placed = (tt, placed)
placed_beside source up (node n body kids rest) g placed =
    let more = placed_beside source up rest g placed.2 in
    ((placed.0, placed.1, more.0), more.1)

-- a level is a part, and so are what stands before, in and behind its node
pub record IsSplit (source : Source) (up : Option ℕ) (before : Forest) (k : ℕ) (body : Body) (inner after : Forest) : Type 0 where
  pub before_part : Part source up before
  pub inner_part : Part source (Some k) inner
  pub after_part : Part source up after
  pub spot_is : spot_of source k ≡ Some (record { up = up; body = body; kids = inner })
  pub unused : uses k before ≡ 0

pub split : (source : Source) (up : Option ℕ) (before : Forest) (k : ℕ) (body : Body) (inner after : Forest) → Part source up (beside before (node k body inner after)) → IsSplit source up before k body inner after
split source up before k body inner after part =
    let parts = placed_beside source up before (node k body inner after) part.placed in
    let count : (m : ℕ) → uses m before + uses m (node k body inner after) ≤ 1 = λ m. let all = part.once m in let sum = uses_beside m before (node k body inner after) in omega (arith, all, sum) in
    let high : max (height before) (height (node k body inner after)) ≤ levels = let all = part.low in let is = height_beside before (node k body inner after) in omega (arith, all, is) in
    let one : ◌≡◌ {A = ℕ} (if k == k then 1 else 0) 1 = if_same {A = ℕ} k k 1 0 refl in
    record {
      before_part = record { placed = parts.0; once = λ m. let all = count m in omega (arith, all); low = omega (arith, high) };
      inner_part = record { placed = parts.1.1; once = λ m. let all = count m in omega (arith, all); low = omega (arith, high) };
      after_part = record { placed = parts.1.2; once = λ m. let all = count m in omega (arith, all); low = omega (arith, high) };
      spot_is = parts.1.0;
      unused = let all = count k in omega (arith, all, one);
    }

-- the children of a node
kids_in : (body : Body) (kids : Forest) → HasOwnKids body kids → children_in body kids ≡ map named (numbers kids)
kids_in Root kids h = refl
kids_in (Element name pairs) kids h = refl
kids_in (Text text) kids h = ap (λ (f : Forest). map named (numbers f)) (sym h)
kids_in (Comment text) kids h = ap (λ (f : Forest). map named (numbers f)) (sym h)

heads_named : (f : Forest) → map named (numbers f) ≡ node_names (heads_in f)
heads_named none = refl
heads_named (node n body kids rest) = ap (λ (l : List NodeName). named n ∷ l) (heads_named rest)

pub kids_are : (names : List NameParts) (source : Source) (n : ℕ) (spot : Spot) → IsProper names source → spot_of source n ≡ Some spot → kids_at source (named n) ≡ node_names (heads_in spot.kids)
kids_are names source n spot proper at =
    ap (λ (o : Option Spot). elim o [ None ↦ [] | Some s ↦ children_in s.body s.kids ]) at ∙ kids_in spot.body spot.kids (own_kids names source n spot proper at) ∙ heads_named spot.kids

-- what is below neighbours is found by walking along their children
pub below_all : (names : List NameParts) (source : Source) (up : Option ℕ) (left : ℕ) (f : Forest) → IsProper names source → Placed source up f → height f ≤ left → below source left (node_names (heads_in f)) ≡ node_names (all_in f)
below_all names source up left none proper placed low = refl
below_all names source up zero (node n body kids rest) proper placed low = absurd (omega (arith, low))
below_all names source up (suc left) (node n body kids rest) proper placed low =
    let inner : below source left (kids_at source (named n)) ≡ node_names (all_in kids) =
    ap (below source left) (kids_are names source n (record { up = up; body = body; kids = kids }) proper placed.0)
    ∙ below_all names source (Some n) left kids proper placed.1 (omega (arith, low)) in
    let behind : below source (suc left) (node_names (heads_in rest)) ≡ node_names (all_in rest) = below_all names source up (suc left) rest proper placed.2 (omega (arith, low)) in
    (λ q. named n ∷ (inner q ++ behind q)) ∙ ap (λ (l : List NodeName). named n ∷ l) (sym (map-append node_name (all_in kids) (all_in rest)))

-- a node of a list is in the source, with that body
abbrev pub IsThere : Source → ℕ × Body → Type 0
IsThere source w = (s : Spot) × (spot_of source w.0 ≡ Some s) × (s.body ≡ w.1)

abbrev pub AreThere : Source → List (ℕ × Body) → Type 0
AreThere source ws = AllByRecursion (IsThere source) ws

pub there-append : (source : Source) (xs ys : List (ℕ × Body)) → AreThere source xs → AreThere source ys → AreThere source (xs ++ ys)
there-append source [] ys one other = other
there-append source (x ∷ xs) ys one other = (one.0, there-append source xs ys one.1 other)

pub all_there : (source : Source) (up : Option ℕ) (f : Forest) → Placed source up f → AreThere source (all_in f)
all_there source up none placed = tt
all_there source up (node n body kids rest) placed =
    ((record { up = up; body = body; kids = kids }, placed.0, refl), there-append source (all_in kids) (all_in rest) (all_there source (Some n) kids placed.1) (all_there source up rest placed.2))

pub heads_there : (source : Source) (up : Option ℕ) (f : Forest) → Placed source up f → AreThere source (heads_in f)
heads_there source up none placed = tt
heads_there source up (node n body kids rest) placed = ((record { up = up; body = body; kids = kids }, placed.0, refl), heads_there source up rest placed.2)

-- a list of neighbours, cut at one of them
other_head : (n k : ℕ) (kids rest : Forest) (body : Body) → uses n (node k body kids rest) ≡ 0 → n ≡ k → ⊥
other_head n k kids rest body unused e = let one : ◌≡◌ {A = ℕ} (if n == k then 1 else 0) 1 = if_same {A = ℕ} n k 1 0 e in absurd (omega (arith, unused, one))

pub after_is : (n : ℕ) (body : Body) (kids after_it : Forest) (before_it : Forest) → uses n before_it ≡ 0 → after (named n) (node_names (heads_in (beside before_it (node n body kids after_it)))) ≡ node_names (heads_in after_it)
after_is n body kids after_it none unused = ap (λ (b : Bool). if b then node_names (heads_in after_it) else after (named n) (node_names (heads_in after_it))) (eq-eqb n n refl)
after_is n body kids after_it (node k b ks rest) unused =
    ap (λ (c : Bool). if c then node_names (heads_in (beside rest (node n body kids after_it))) else after (named n) (node_names (heads_in (beside rest (node n body kids after_it)))))
    (ne_eqb k n (λ e. other_head n k ks rest b unused (sym e)))
    ∙ after_is n body kids after_it rest (omega (arith, unused))

pub before_is : (n : ℕ) (body : Body) (kids after_it : Forest) (before_it : Forest) → uses n before_it ≡ 0 → before (named n) (node_names (heads_in (beside before_it (node n body kids after_it)))) ≡ node_names (heads_in before_it)
before_is n body kids after_it none unused = ap (λ (b : Bool). if b then [] else named n ∷ before (named n) (node_names (heads_in after_it))) (eq-eqb n n refl)
before_is n body kids after_it (node k b ks rest) unused =
    ap (λ (c : Bool). if c then [] else named k ∷ before (named n) (node_names (heads_in (beside rest (node n body kids after_it))))) (ne_eqb k n (λ e. other_head n k ks rest b unused (sym e)))
    ∙ ap (λ (l : List NodeName). named k ∷ l) (before_is n body kids after_it rest (omega (arith, unused)))

-- the whole of a proper source
pub whole : (names : List NameParts) (source : Source) → IsProper names source → Part source None source.tree
whole names source proper = record {
  placed = placed_in source None source.tree proper.distinct (λ m used. refl);
  once = proper.distinct;
  low = subst (λ (f : Forest). height f ≤ levels) (sym proper.rooted)
      (let inner = height_depth names proper.top proper.nodes in
      let shallow : depth_of (node 0 Root proper.top none) ≤ 120 = subst (λ (f : Forest). depth_of f ≤ 120) proper.rooted proper.shallow in
      omega (arith, inner, shallow));
}
