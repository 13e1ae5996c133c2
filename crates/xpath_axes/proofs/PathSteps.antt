-- A node's path is its parent's path and then its place among the parent's children, so reading parents gives it.
use Rattle.std.proofs.Common.{◌≡◌, ℕ, zero, suc, ◌-◌, ◌<◌, ◌≤◌, ◌==◌, inl, inr, Bool, true, false, List, [], ◌∷◌, ◌++◌, map, length, Option, Some, None, if◌then◌else◌, refl, sym, ap, subst, ◌∙◌, arith, add-one}
use Rattle.std.specs.Option.{option_map, option_and_then}
use Rattle.std.specs.List.{position, position_from}
use Rattle.std.proofs.lemmas.Option.{none-some}
use Rattle.std.proofs.lemmas.Bool.{cases_eq}
use Rattle.std.proofs.lemmas.List.{length-append}
use Rattle.std.proofs.lemmas.Iterator.Adapters.{position_from-zero}
use Rattle.serna_kinds.specs.declared.cells.NodeName.{NodeName}
use Rattle.serna_kinds.specs.declared.cells.NodeRef.TheVariants as ref
use Rattle.serna_kinds.specs.Names.{NameParts}
use Rattle.source_model.specs.Source.{Body, Root, Element, Text, Comment, Forest, none, node, Source, numbers}
use Rattle.source_model.specs.Cells.{Spot, or_else, spot_in, spot_of, named}
use Rattle.source_model.specs.Proper.{IsProper, AreNodes, uses, depth_of}
use Rattle.source_model.specs.Paths.{Path, path_in, path_of}
use Rattle.source_model.proofs.Spots.{if_same, if_other, used-from_spot}
use Rattle.source_model.proofs.Below.{HasOwnKids, own_kids, in_kids, in_rest}
use Rattle.source_model.proofs.Children.{stands}
use Rattle.source_model.proofs.Placed.{further, or_behind, path_kids, path_rest}
use Rattle.xpath_axes.specs.Nodes.{children_in, children_of, parent_of, parent_at, kids_at}
use Rattle.xpath_axes.specs.Order.{path_along, path_by}

-- the place of a number among neighbours, the first of which is at place i
abbrev place_in : ℕ → ℕ → List ℕ → Option ℕ
place_in n i [] = None
place_in n i (k ∷ ks) = if n == k then Some i else place_in n (suc i) ks

-- a node stands among these neighbours, or below one of them that is its parent
pub data Stepped (up : Option ℕ) (n i : ℕ) (f : Forest) (p : Path) (spot : Spot) : Type 0 where
  top : spot.up ≡ up → (j : ℕ) → place_in n i (numbers f) ≡ Some j → p ≡ (1, j) ∷ [] → Stepped up n i f p spot
  lower : (q : ℕ) (above : Path) (parent : Spot) (j : ℕ) → spot.up ≡ Some q → path_in q i f ≡ Some above → spot_in up q f ≡ Some parent → place_in n 0 (numbers parent.kids) ≡ Some j →
      p ≡ above ++ (1, j) ∷ [] → Stepped up n i f p spot

lift_kids : (up : Option ℕ) (n i k : ℕ) (body : Body) (kids rest : Forest) (p : Path) (spot : Spot) → ((m : ℕ) → uses m (node k body kids rest) ≤ 1) → Stepped (Some k) n 0 kids p spot →
    Stepped up n i (node k body kids rest) ((1, i) ∷ p) spot
lift_kids up n i k body kids rest p spot once (top is j place e) =
    lower k ((1, i) ∷ []) (record { up = up; body = body; kids = kids }) j is (if_same k k _ _ refl) (if_same k k _ _ refl) place (ap (λ (q : Path). (1, i) ∷ q) e)
lift_kids up n i k body kids rest p spot once (lower q above parent j is path found place e) =
    let used : 0 < uses q kids = used-from_spot (Some k) q parent kids found in
    lower q ((1, i) ∷ above) parent j is (path_kids q i k body kids rest (once q) used ∙ ap (further (1, i)) path) (sym (in_kids up q k body kids rest (once q) used) ∙ found) place
    (ap (λ (x : Path). (1, i) ∷ x) e)

lift_rest : (up : Option ℕ) (n i k : ℕ) (body : Body) (kids rest : Forest) (p : Path) (spot : Spot) → ((m : ℕ) → uses m (node k body kids rest) ≤ 1) → (n ≡ k → ⊥) → Stepped up n (suc i) rest p spot →
    Stepped up n i (node k body kids rest) p spot
lift_rest up n i k body kids rest p spot once other (top is j place e) = top is j (if_other n k _ _ other ∙ place) e
lift_rest up n i k body kids rest p spot once other (lower q above parent j is path found place e) =
    let used : 0 < uses q rest = used-from_spot up q parent rest found in
    lower q above parent j is (path_rest q i k body kids rest (once q) used ∙ path) (sym (in_rest up q k body kids rest (once q) used) ∙ found) place e

abbrev or_path : Path → Option Path → Path
or_path p None = p
or_path p (Some q) = q

abbrev or_spot : Spot → Option Spot → Spot
or_spot s None = s
or_spot s (Some t) = t

-- what an equation of two found things says
path_same : (p q : Path) → Some p ≡ Some q → p ≡ q
path_same p q e = ap (or_path p) e

spot_same : (s t : Spot) → Some s ≡ Some t → s ≡ t
spot_same s t e = ap (or_spot s) e

place_same : (i j : ℕ) → Some i ≡ Some j → i ≡ j
place_same i j e = ap (λ (o : Option ℕ). elim o [ None ↦ i | Some k ↦ k ]) e

stepped : (up : Option ℕ) (n i : ℕ) (f : Forest) → ((m : ℕ) → uses m f ≤ 1) → (p : Path) → path_in n i f ≡ Some p → (spot : Spot) → spot_in up n f ≡ Some spot → Stepped up n i f p spot
stepped up n i none once p path spot found = absurd (none-some p path)
stepped up n i (node k body kids rest) once p path spot found =
    let below_once : (m : ℕ) → uses m kids ≤ 1 = λ m. let all = once m in omega (arith, all) in
    let behind_once : (m : ℕ) → uses m rest ≤ 1 = λ m. let all = once m in omega (arith, all) in
    elim (cases_eq n k) [
      | inl e ↦
          top (sym (ap (λ (s : Spot). s.up) (spot_same (record { up = up; body = body; kids = kids }) spot (sym (if_same n k _ _ e) ∙ found)))) i (if_same n k _ _ e)
          (sym (path_same ((1, i) ∷ []) p (sym (if_same n k _ _ e) ∙ path)))
      | inr other ↦ elim (stands (Some k) n 0 kids) [
        | inl at ↦
            let down : Path = (1, at.place) ∷ at.more in
            let inner = stepped (Some k) n 0 kids below_once down at.path_is at.spot at.spot_is in
            let whole : (1, i) ∷ down ≡ p = path_same ((1, i) ∷ down) p (sym (if_other n k _ _ other ∙ ap (λ o. or_behind i o (path_in n (suc i) rest)) at.path_is) ∙ path) in
            let same : at.spot ≡ spot = spot_same at.spot spot (sym (if_other n k _ _ other ∙ ap (λ (o : Option Spot). or_else o (spot_in up n rest)) at.spot_is) ∙ found) in
            subst (λ (q : Path). Stepped up n i (node k body kids rest) q spot) whole
            (subst (λ (s : Spot). Stepped up n i (node k body kids rest) ((1, i) ∷ down) s) same (lift_kids up n i k body kids rest down at.spot once inner))
        | inr gone ↦
            lift_rest up n i k body kids rest p spot once other
            (stepped up n (suc i) rest behind_once p (sym (if_other n k _ _ other ∙ ap (λ o. or_behind i o (path_in n (suc i) rest)) gone.path_is) ∙ path) spot
            (sym (if_other n k _ _ other ∙ ap (λ (o : Option Spot). or_else o (spot_in up n rest)) gone.spot_is) ∙ found))
      ]
    ]

-- a path has a step at least, and no more than elements stand in one another
path_some : (up : Option ℕ) (n i : ℕ) (f : Forest) (p : Path) → path_in n i f ≡ Some p → 0 < length p
path_some up n i f p e = elim (stands up n i f) [
  | inl at ↦ subst (λ (q : Path). 0 < length q) (path_same ((1, at.place) ∷ at.more) p (sym at.path_is ∙ e)) (omega arith)
  | inr gone ↦ absurd (none-some p (sym gone.path_is ∙ e))
]

abbrev IsShort : ℕ → Option Path → Type 0
IsShort bound None = Unit {0}
IsShort bound (Some p) = length p ≤ bound

short_or : (i bound : ℕ) (o p : Option Path) → 0 < bound → IsShort (bound - 1) o → IsShort bound p → IsShort bound (or_behind i o p)
short_or i bound None p some down along = along
short_or i bound (Some q) p some down along = omega (arith, down, some)

short_if : (i bound : ℕ) (b : Bool) (o : Option Path) → 0 < bound → IsShort bound o → IsShort bound (if b then Some ((1, i) ∷ []) else o)
short_if i bound true o some rest = some
short_if i bound false o some rest = rest

short_more : (bound more : ℕ) (o : Option Path) → bound ≤ more → IsShort bound o → IsShort more o
short_more bound more None le short = tt
short_more bound more (Some p) le short = omega (arith, le, short)

short_below : (n i : ℕ) (kids : Forest) (bound : ℕ) → kids ≡ none → IsShort bound (path_in n i kids)
short_below n i kids bound e = subst (λ (f : Forest). IsShort bound (path_in n i f)) (sym e) tt

path_short : (names : List NameParts) (n i : ℕ) (f : Forest) → AreNodes names f → IsShort (suc (depth_of f)) (path_in n i f)
path_short names n i none nodes = tt
path_short names n i (node k Root kids rest) nodes = absurd nodes
path_short names n i (node k (Element name pairs) kids rest) nodes =
    let bound : ℕ = suc (depth_of (node k (Element name pairs) kids rest)) in
    short_if i bound (n == k) (or_behind i (path_in n 0 kids) (path_in n (suc i) rest)) (omega arith)
    (short_or i bound (path_in n 0 kids) (path_in n (suc i) rest) (omega arith) (short_more (suc (depth_of kids)) (bound - 1) (path_in n 0 kids) (omega arith) (path_short names n 0 kids nodes.2))
    (short_more (suc (depth_of rest)) bound (path_in n (suc i) rest) (omega arith) (path_short names n (suc i) rest nodes.3)))
path_short names n i (node k (Text text) kids rest) nodes =
    let bound : ℕ = suc (depth_of (node k (Text text) kids rest)) in
    short_if i bound (n == k) (or_behind i (path_in n 0 kids) (path_in n (suc i) rest)) (omega arith)
    (short_or i bound (path_in n 0 kids) (path_in n (suc i) rest) (omega arith) (short_below n 0 kids (bound - 1) nodes.2)
    (short_more (suc (depth_of rest)) bound (path_in n (suc i) rest) (omega arith) (path_short names n (suc i) rest nodes.4)))
path_short names n i (node k (Comment text) kids rest) nodes =
    let bound : ℕ = suc (depth_of (node k (Comment text) kids rest)) in
    short_if i bound (n == k) (or_behind i (path_in n 0 kids) (path_in n (suc i) rest)) (omega arith)
    (short_or i bound (path_in n 0 kids) (path_in n (suc i) rest) (omega arith) (short_below n 0 kids (bound - 1) nodes.0)
    (short_more (suc (depth_of rest)) bound (path_in n (suc i) rest) (omega arith) (path_short names n (suc i) rest nodes.1)))

short_source : (names : List NameParts) (source : Source) (n : ℕ) → IsProper names source → IsShort 122 (path_in n 0 source.tree)
short_source names source n proper =
    let shallow : depth_of (node 0 Root proper.top none) ≤ 120 = subst (λ (f : Forest). depth_of f ≤ 120) proper.rooted proper.shallow in
    subst (λ (f : Forest). IsShort 122 (path_in n 0 f)) (sym proper.rooted)
    (short_if 0 122 (n == 0) (or_behind 0 (path_in n 0 proper.top) None) (omega arith)
    (short_or 0 122 (path_in n 0 proper.top) None (omega arith) (short_more (suc (depth_of proper.top)) 121 (path_in n 0 proper.top) (omega (arith, shallow)) (path_short names n 0 proper.top proper.nodes)) tt))

-- a place among numbers is that among the nodes of the numbers
place_from : (n i : ℕ) (ks : List ℕ) → position_from (λ (k : NodeName). n == k.0) i (map named ks) ≡ place_in n i ks
place_from n i [] = refl
place_from n i (k ∷ ks) =
    ap (λ (o : Option ℕ). if n == k then Some i else o) (ap (λ (j : ℕ). position_from (λ (x : NodeName). n == x.0) j (map named ks)) (add-one i) ∙ place_from n (suc i) ks)

place_of_node : (n : ℕ) (ks : List ℕ) → position (λ (k : NodeName). n == k.0) (map named ks) ≡ place_in n 0 ks
place_of_node n ks = position_from-zero (λ (k : NodeName). n == k.0) (map named ks) ∙ place_from n 0 ks

kids_in : (body : Body) (kids : Forest) → HasOwnKids body kids → children_in body kids ≡ map named (numbers kids)
kids_in Root kids h = refl
kids_in (Element name pairs) kids h = refl
kids_in (Text text) kids h = ap (λ (f : Forest). map named (numbers f)) (sym h)
kids_in (Comment text) kids h = ap (λ (f : Forest). map named (numbers f)) (sym h)

pub path_step : (source : Source) (left below : ℕ) (n : NodeName) → left ≡ suc below → path_by source left n ≡ path_along source n (path_by source below) (parent_at source n)
unfolding path_by
path_step source left below n e = ap (λ l. path_by source l n) e

pub path_none : (source : Source) (left : ℕ) (n : NodeName) → left ≡ 0 → path_by source left n ≡ None
unfolding path_by
path_none source left n e = ap (λ l. path_by source l n) e

only_place : (n k j : ℕ) → place_in n 0 (k ∷ []) ≡ Some j → j ≡ 0
only_place n k j e = by (n == k) e
  where
    by : (b : Bool) → (if b then Some 0 else None) ≡ Some j → j ≡ 0
    by true is = sym (place_same 0 j is)
    by false is = absurd (none-some j is)

parent_none : (o : Option Spot) (spot : Spot) → o ≡ Some spot → spot.up ≡ None → option_and_then parent_of o ≡ None
parent_none o spot at up = ap (option_and_then parent_of) at ∙ ap (option_map named) up

pub parent_some : (o : Option Spot) (spot : Spot) (q : ℕ) → o ≡ Some spot → spot.up ≡ Some q → option_and_then parent_of o ≡ Some (named q)
parent_some o spot q at up = ap (option_and_then parent_of) at ∙ ap (option_map named) up

-- a node that has a path and a spot
pub record IsThere (source : Source) (n : ℕ) (p : Path) : Type 0 where
  pub spot : Spot
  pub spot_is : spot_of source n ≡ Some spot
  pub how : Stepped None n 0 source.tree p spot

pub there : (names : List NameParts) (source : Source) (n : ℕ) (p : Path) → IsProper names source → path_in n 0 source.tree ≡ Some p → IsThere source n p
there names source n p proper e = elim (stands None n 0 source.tree) [
  | inl at ↦ record { spot = at.spot; spot_is = at.spot_is; how = stepped None n 0 source.tree proper.distinct p e at.spot at.spot_is }
  | inr gone ↦ absurd (none-some p (sym gone.path_is ∙ e))
]

top_path : (names : List NameParts) (source : Source) (left : ℕ) (n : NodeName) (p : Path) (spot : Spot) (j : ℕ) → IsProper names source → spot_of source n.0 ≡ Some spot → spot.up ≡ None →
    place_in n.0 0 (numbers source.tree) ≡ Some j → p ≡ (1, j) ∷ [] → path_by source (suc left) n ≡ Some p
top_path names source left n p spot j proper at up place e =
    let first : j ≡ 0 = only_place n.0 0 j (sym (ap (λ (f : Forest). place_in n.0 0 (numbers f)) proper.rooted) ∙ place) in
    path_step source (suc left) left n refl
    ∙ ap (path_along source n (path_by source left)) (parent_none (spot_of source n.0) spot at up)
    ∙ ap (option_map (λ (s : Spot). (1, 0) ∷ [])) at
    ∙ ap (λ (x : ℕ). Some ((1, x) ∷ [])) (sym first)
    ∙ ap Some (sym e)

lower_path : (names : List NameParts) (source : Source) (left : ℕ) (n : NodeName) (p above : Path) (spot parent : Spot) (q j : ℕ) → IsProper names source → spot_of source n.0 ≡ Some spot → spot.up ≡ Some q →
    spot_of source q ≡ Some parent → place_in n.0 0 (numbers parent.kids) ≡ Some j → p ≡ above ++ (1, j) ∷ [] → path_by source left (named q) ≡ Some above → path_by source (suc left) n ≡ Some p
lower_path names source left n p above spot parent q j proper at up found place e over =
    let kids : kids_at source (named q) ≡ map named (numbers parent.kids) =
    ap (λ (o : Option Spot). elim o [ None ↦ [] | Some s ↦ children_of s ]) found ∙ kids_in parent.body parent.kids (own_kids names source q parent proper found) in
    let placed : position (λ (k : NodeName). n.0 == k.0) (kids_at source (named q)) ≡ Some j = ap (position (λ (k : NodeName). n.0 == k.0)) kids ∙ place_of_node n.0 (numbers parent.kids) ∙ place in
    path_step source (suc left) left n refl
    ∙ ap (path_along source n (path_by source left)) (parent_some (spot_of source n.0) spot q at up)
    ∙ (λ i. option_and_then (λ (x : Path). option_map (λ y. x ++ (1, y) ∷ []) (placed i)) (over i))
    ∙ ap Some (sym e)

path_turn : (names : List NameParts) (source : Source) (left : ℕ) (n : NodeName) (p : Path) (spot : Spot) → IsProper names source → length p ≤ suc left →
    ((m : NodeName) (q : Path) → path_in m.0 0 source.tree ≡ Some q → length q ≤ left → path_by source left m ≡ Some q) → spot_of source n.0 ≡ Some spot → Stepped None n.0 0 source.tree p spot →
    path_by source (suc left) n ≡ Some p
path_turn names source left n p spot proper le before at (top up j place e) = top_path names source left n p spot j proper at up place e
path_turn names source left n p spot proper le before at (lower q above parent j up path found place e) =
    lower_path names source left n p above spot parent q j proper at up found place e
    (before (named q) above path (omega (arith, le, ap length e, length-append above ((1, j) ∷ []))))

path_found : (names : List NameParts) (source : Source) (left : ℕ) (n : NodeName) (p : Path) → IsProper names source → path_in n.0 0 source.tree ≡ Some p → length p ≤ left → path_by source left n ≡ Some p
path_found names source zero n p proper e le = let some : 0 < length p = path_some None n.0 0 source.tree p e in absurd (omega (arith, some, le))
path_found names source (suc left) n p proper e le =
    let is = there names source n.0 p proper e in
    path_turn names source left n p is.spot proper le (λ m q path less. path_found names source left m q proper path less) is.spot_is is.how

path_gone : (source : Source) (left : ℕ) (n : NodeName) → spot_of source n.0 ≡ None → path_by source (suc left) n ≡ None
path_gone source left n gone =
    path_step source (suc left) left n refl
    ∙ ap (λ (o : Option Spot). path_along source n (path_by source left) (option_and_then parent_of o)) gone
    ∙ ap (option_map (λ (s : Spot). (1, 0) ∷ [])) gone

-- the path that is read is the node's path
pub path_read : (names : List NameParts) (source : Source) (n : NodeName) → IsProper names source → path_by source 122 n ≡ path_of source (ref.Node n)
path_read names source n proper = elim (stands None n.0 0 source.tree) [
  | inl at ↦
      path_found names source 122 n ((1, at.place) ∷ at.more) proper at.path_is (subst (IsShort 122) at.path_is (short_source names source n.0 proper)) ∙ sym at.path_is
  | inr gone ↦ path_gone source 121 n gone.spot_is ∙ sym gone.path_is
]
