-- Each entry of a proper source has the path of its node or attribute there, and each of these has an entry.
use Rattle.std.proofs.Common.{◌≡◌, ℕ, suc, ◌+◌, ◌<◌, ◌≤◌, ◌==◌, inl, inr, true, false, List, [], ◌∷◌, ◌++◌, Option, Some, None, slice_get, if◌then◌else◌, refl, sym, ap, subst, ◌∙◌, arith, true≢false}
use Rattle.std.specs.Prelude.{IsSome, ◌&&◌}
use Rattle.std.specs.Option.{option_map, option_and_then}
use Rattle.std.specs.List.{AllByRecursion}
use Rattle.std.proofs.lemmas.Option.{none-some}
use Rattle.std.proofs.lemmas.Slice.Eq.{bytes_eq-Decides}
use Rattle.serna_kinds.specs.declared.cells.NameId.{NameId}
use Rattle.serna_kinds.specs.declared.cells.NodeRef.{NodeRef}
use Rattle.serna_kinds.specs.declared.cells.NodeRef.TheVariants as ref
use Rattle.serna_kinds.specs.declared.cells.AttrPair.{AttrPair}
use Rattle.serna_kinds.specs.Names.{NameParts, are_same}
use Rattle.serna_kinds.specs.Apart.{AreApart}
use Rattle.source_model.specs.Source.{Body, Root, Element, Text, Comment, Forest, none, node, Source}
use Rattle.source_model.specs.Cells.{Spot, spot_in}
use Rattle.source_model.specs.Proper.{IsProper, AreNodes, uses}
use Rattle.source_model.specs.Paths.{Path, Thing, Entry, attribute_entries, attribute_place, deeper, entries, entries_of, path_in, path_of}
use Rattle.source_model.specs.Attributes.{pairs_of}
use Rattle.source_model.proofs.Spots.{if_same, if_other, spot_in-unused, spot-from_used}
use Rattle.source_model.proofs.Below.{in_kids, in_rest}
use Rattle.source_model.proofs.Children.{own, stands}
use Rattle.source_model.proofs.Ordered.{all_weaker, all_append}

-- the number of a node, and of an attribute's element
abbrev pub owner : NodeRef → ℕ
owner (ref.Node n) = n.0
owner (ref.Attr n name) = n.0

abbrev with_place : NameId → Option Path → Option Spot → Option Path
with_place name path spot = option_and_then (λ p. option_and_then (λ (s : Spot). option_map (λ i. p ++ (0, i) ∷ []) (attribute_place name 0 (pairs_of s.body))) spot) path

-- the path of a node or attribute among neighbours
abbrev ref_path : Option ℕ → ℕ → Forest → NodeRef → Option Path
ref_path up i f (ref.Node n) = path_in n.0 i f
ref_path up i f (ref.Attr n name) = with_place name (path_in n.0 i f) (spot_in up n.0 f)

ref_path-of : (source : Source) (r : NodeRef) → path_of source r ≡ ref_path None 0 source.tree r
ref_path-of source (ref.Node n) = refl
ref_path-of source (ref.Attr n name) = refl

abbrev pub further : ℕ × ℕ → Option Path → Option Path
further s path = option_map (λ (p : Path). s ∷ p) path

with_place-further : (name : NameId) (s : ℕ × ℕ) (path : Option Path) (spot : Option Spot) → with_place name (further s path) spot ≡ further s (with_place name path spot)
with_place-further name s None spot = refl
with_place-further name s (Some p) None = refl
with_place-further name s (Some p) (Some spot) = by (attribute_place name 0 (pairs_of spot.body))
  where
    by : (o : Option ℕ) → option_map (λ i. (s ∷ p) ++ (0, i) ∷ []) o ≡ further s (option_map (λ i. p ++ (0, i) ∷ []) o)
    by None = refl
    by (Some i) = refl

-- a number that is used has a path, another has none
pub path-from_used : (up : Option ℕ) (n i : ℕ) (f : Forest) → 0 < uses n f → (p : Path) × (path_in n i f ≡ Some p)
path-from_used up n i f used = elim (stands up n i f) [
  | inl at ↦ ((1, at.place) ∷ at.more, at.path_is)
  | inr gone ↦ let found = spot-from_used up n f used in absurd (none-some found.0 (sym gone.spot_is ∙ found.1))
]

path_in-unused : (up : Option ℕ) (n i : ℕ) (f : Forest) → uses n f ≡ 0 → path_in n i f ≡ None
path_in-unused up n i f unused = elim (stands up n i f) [
  | inl at ↦ absurd (none-some at.spot (sym (spot_in-unused up n f unused) ∙ at.spot_is))
  | inr gone ↦ gone.path_is
]

other_number : (m k : ℕ) (kids rest : Forest) → uses m (node k Root kids rest) ≤ 1 → 0 < uses m kids + uses m rest → m ≡ k → ⊥
other_number m k kids rest once used e = let one : ◌≡◌ {A = ℕ} (if m == k then 1 else 0) 1 = if_same {A = ℕ} m k 1 0 e in absurd (omega (arith, once, used, one))

abbrev pub or_behind : ℕ → Option Path → Option Path → Option Path
or_behind i path behind = elim path [ None ↦ behind | Some p ↦ Some ((1, i) ∷ p) ]

pub path_kids : (m i k : ℕ) (body : Body) (kids rest : Forest) → uses m (node k body kids rest) ≤ 1 → 0 < uses m kids → path_in m i (node k body kids rest) ≡ further (1, i) (path_in m 0 kids)
path_kids m i k body kids rest once used =
    let found = path-from_used None m 0 kids used in
    if_other m k _ _ (other_number m k kids rest once (omega (arith, used)))
    ∙ ap (λ o. or_behind i o (path_in m (suc i) rest)) found.1 ∙ sym (ap (further (1, i)) found.1)

pub path_rest : (m i k : ℕ) (body : Body) (kids rest : Forest) → uses m (node k body kids rest) ≤ 1 → 0 < uses m rest → path_in m i (node k body kids rest) ≡ path_in m (suc i) rest
path_rest m i k body kids rest once used =
    let gone : uses m kids ≡ 0 = omega (arith, once, used) in
    if_other m k _ _ (other_number m k kids rest once (omega (arith, used))) ∙ ap (λ o. or_behind i o (path_in m (suc i) rest)) (path_in-unused None m 0 kids gone)

ref_kids : (up : Option ℕ) (i k : ℕ) (body : Body) (kids rest : Forest) (r : NodeRef) → uses (owner r) (node k body kids rest) ≤ 1 → 0 < uses (owner r) kids →
    ref_path up i (node k body kids rest) r ≡ further (1, i) (ref_path (Some k) 0 kids r)
ref_kids up i k body kids rest (ref.Node n) once used = path_kids n.0 i k body kids rest once used
ref_kids up i k body kids rest (ref.Attr n name) once used =
    (λ j. with_place name (path_kids n.0 i k body kids rest once used j) (sym (in_kids up n.0 k body kids rest once used) j)) ∙ with_place-further name (1, i) (path_in n.0 0 kids) (spot_in (Some k) n.0 kids)

ref_rest : (up : Option ℕ) (i k : ℕ) (body : Body) (kids rest : Forest) (r : NodeRef) → uses (owner r) (node k body kids rest) ≤ 1 → 0 < uses (owner r) rest →
    ref_path up i (node k body kids rest) r ≡ ref_path up (suc i) rest r
ref_rest up i k body kids rest (ref.Node n) once used = path_rest n.0 i k body kids rest once used
ref_rest up i k body kids rest (ref.Attr n name) once used =
    λ j. with_place name (path_rest n.0 i k body kids rest once used j) (sym (in_rest up n.0 k body kids rest once used) j)

-- an attribute among those of its element, by its name
abbrev IsAttribute : ℕ → ℕ → List AttrPair → NodeRef → Path → Type 0
IsAttribute n i pairs (ref.Node m) p = ⊥
IsAttribute n i pairs (ref.Attr m name) p = (m.0 ≡ n) × (option_map (λ j. (0, j) ∷ []) (attribute_place name i pairs) ≡ Some p)

abbrev IsNameWith : (NameId → Type 0) → NodeRef → Type 0
IsNameWith P (ref.Node m) = ⊥
IsNameWith P (ref.Attr m name) = P name

attributes_with : (P : NameId → Type 0) (n i : ℕ) (pairs : List AttrPair) → AllByRecursion (λ (pair : AttrPair). P pair.name) pairs →
    AllByRecursion (λ (e : Entry). IsNameWith P e.thing.ref) (attribute_entries n i pairs)
attributes_with P n i [] all = tt
attributes_with P n i (pair ∷ pairs) all = (all.0, attributes_with P n (suc i) pairs all.1)

all_both : {A : Type 0} (P Q R : A → Type 0) → ((x : A) → P x → Q x → R x) → (xs : List A) → AllByRecursion P xs → AllByRecursion Q xs → AllByRecursion R xs
all_both P Q R both [] one other = tt
all_both P Q R both (x ∷ xs) one other = (both x one.0 other.0, all_both P Q R both xs one.1 other.1)

same_by_number : (names : List NameParts) (a b : NameId) (o : Option NameParts) → a.0 ≡ b.0 → slice_get names a.0 ≡ o → IsSome o → are_same names a b ≡ true
same_by_number names a b None e at known = absurd (true≢false (sym known))
same_by_number names a b (Some x) e at known =
    rw (are_same, at, sym (ap (slice_get names) e) ∙ at) (λ i. (bytes_eq-Decides x.uri x.uri).1 refl i && (bytes_eq-Decides x.local x.local).1 refl i)

further_attribute : (n i : ℕ) (pair : AttrPair) (pairs : List AttrPair) (r : NodeRef) (p : Path) → IsAttribute n (suc i) pairs r p → IsNameWith (λ name. pair.name.0 ≡ name.0 → ⊥) r → IsAttribute n i (pair ∷ pairs) r p
further_attribute n i pair pairs (ref.Node m) p is other = absurd is
further_attribute n i pair pairs (ref.Attr m name) p is other =
    (is.0, ap (option_map (λ j. (0, j) ∷ [])) (if_other pair.name.0 name.0 (Some i) (attribute_place name (suc i) pairs) other) ∙ is.1)

told_attributes : (names : List NameParts) (n i : ℕ) (pairs : List AttrPair) → AreApart names pairs → AllByRecursion (λ (e : Entry). IsAttribute n i pairs e.thing.ref e.path) (attribute_entries n i pairs)
told_attributes names n i [] apart = tt
told_attributes names n i (pair ∷ pairs) apart = (
  (refl, ap (option_map (λ j. (0, j) ∷ [])) (if_same pair.name.0 pair.name.0 (Some i) (attribute_place pair.name (suc i) pairs) refl)),
  all_both (λ (e : Entry). IsAttribute n (suc i) pairs e.thing.ref e.path) (λ (e : Entry). IsNameWith (λ name. pair.name.0 ≡ name.0 → ⊥) e.thing.ref)
      (λ (e : Entry). IsAttribute n i (pair ∷ pairs) e.thing.ref e.path) (λ e is other. further_attribute n i pair pairs e.thing.ref e.path is other) (attribute_entries n (suc i) pairs)
      (told_attributes names n (suc i) pairs apart.2)
      (attributes_with (λ name. pair.name.0 ≡ name.0 → ⊥) n (suc i) pairs
      (all_weaker (λ (other : AttrPair). are_same names pair.name other.name ≡ false) (λ (other : AttrPair). pair.name.0 ≡ other.name.0 → ⊥)
      (λ other differs e. true≢false (sym (same_by_number names pair.name other.name (slice_get names pair.name.0) e refl apart.0) ∙ differs)) pairs apart.1)),
)

-- each attribute of a forest is found by its name
abbrev AreTold : Forest → Type 0
AreTold none = Unit {0}
AreTold (node n body kids rest) = AllByRecursion (λ (e : Entry). IsAttribute n 0 (pairs_of body) e.thing.ref e.path) (attribute_entries n 0 (pairs_of body)) × AreTold kids × AreTold rest

told_nodes : (names : List NameParts) (f : Forest) → AreNodes names f → AreTold f
told_nodes names none nodes = tt
told_nodes names (node n Root kids rest) nodes = absurd nodes
told_nodes names (node n (Element name pairs) kids rest) nodes = (told_attributes names n 0 pairs nodes.1.0, told_nodes names kids nodes.2, told_nodes names rest nodes.3)
told_nodes names (node n (Text text) kids rest) nodes = (tt, subst AreTold (sym nodes.2) tt, told_nodes names rest nodes.4)
told_nodes names (node n (Comment text) kids rest) nodes = (tt, subst AreTold (sym nodes.0) tt, told_nodes names rest nodes.1)

pub all_things_deeper : (P : Path → Thing → Type 0) (s : ℕ × ℕ) (es : List Entry) → AllByRecursion (λ (e : Entry). P (s ∷ e.path) e.thing) es → AllByRecursion (λ (e : Entry). P e.path e.thing) (deeper s es)
all_things_deeper P s [] all = tt
all_things_deeper P s (e ∷ es) all = (all.0, all_things_deeper P s es all.1)

abbrev IsPlaced : Option ℕ → ℕ → Forest → Path → Thing → Type 0
IsPlaced up i f path thing = (0 < uses (owner thing.ref) f) × (ref_path up i f thing.ref ≡ Some path)

place_further : (o : Option ℕ) (s : ℕ × ℕ) (p : Path) → option_map (λ j. (0, j) ∷ []) o ≡ Some p → option_map (λ j. s ∷ (0, j) ∷ []) o ≡ Some (s ∷ p)
place_further None s p e = absurd (none-some p e)
place_further (Some j) s p e = ap (further s) e

own_used : (m k : ℕ) (kids rest : Forest) → m ≡ k → 0 < uses m (node k Root kids rest)
own_used m k kids rest e = let one : ◌≡◌ {A = ℕ} (if m == k then 1 else 0) 1 = if_same {A = ℕ} m k 1 0 e in omega (arith, one)

placed_attribute : (up : Option ℕ) (i k : ℕ) (body : Body) (kids rest : Forest) (r : NodeRef) (p : Path) → IsAttribute k 0 (pairs_of body) r p →
    (0 < uses (owner r) (node k body kids rest)) × (ref_path up i (node k body kids rest) r ≡ Some ((1, i) ∷ p))
placed_attribute up i k body kids rest (ref.Node m) p is = absurd is
placed_attribute up i k body kids rest (ref.Attr m name) p is = (
  own_used m.0 k kids rest is.0,
  (λ j. with_place name (if_same m.0 k (Some ((1, i) ∷ [])) (or_behind i (path_in m.0 0 kids) (path_in m.0 (suc i) rest)) is.0 j) (own_spot j))
      ∙ place_further (attribute_place name 0 (pairs_of body)) (1, i) p is.1,
)
  where
    own_spot : spot_in up m.0 (node k body kids rest) ≡ Some (record { up = up; body = body; kids = kids })
    own_spot = if_same m.0 k _ _ is.0

placed : (up : Option ℕ) (i : ℕ) (f : Forest) → ((m : ℕ) → uses m f ≤ 1) → AreTold f → AllByRecursion (λ (e : Entry). IsPlaced up i f e.path e.thing) (entries i f)
placed up i none once told = tt
placed up i (node k body kids rest) once told =
    let whole : Forest = node k body kids rest in
    let below_once : (m : ℕ) → uses m kids ≤ 1 = λ m. let all = once m in omega (arith, all) in
    let behind_once : (m : ℕ) → uses m rest ≤ 1 = λ m. let all = once m in omega (arith, all) in
    all_append (λ (e : Entry). IsPlaced up i whole e.path e.thing) (deeper (1, i) (own k body kids)) (entries (suc i) rest)
    (all_things_deeper (IsPlaced up i whole) (1, i) (own k body kids) (
      (own_used k k kids rest refl, if_same k k (Some ((1, i) ∷ [])) (or_behind i (path_in k 0 kids) (path_in k (suc i) rest)) refl),
      all_append (λ (e : Entry). IsPlaced up i whole ((1, i) ∷ e.path) e.thing) (attribute_entries k 0 (pairs_of body)) (entries 0 kids)
          (all_weaker (λ (e : Entry). IsAttribute k 0 (pairs_of body) e.thing.ref e.path) (λ (e : Entry). IsPlaced up i whole ((1, i) ∷ e.path) e.thing)
          (λ e is. placed_attribute up i k body kids rest e.thing.ref e.path is) (attribute_entries k 0 (pairs_of body)) told.0)
          (all_weaker (λ (e : Entry). IsPlaced (Some k) 0 kids e.path e.thing) (λ (e : Entry). IsPlaced up i whole ((1, i) ∷ e.path) e.thing)
          (λ e is.
          let used = is.0 in
          (omega (arith, used), ref_kids up i k body kids rest e.thing.ref (once (owner e.thing.ref)) used ∙ ap (further (1, i)) is.1))
          (entries 0 kids) (placed (Some k) 0 kids below_once told.1)),
    ))
    (all_weaker (λ (e : Entry). IsPlaced up (suc i) rest e.path e.thing) (λ (e : Entry). IsPlaced up i whole e.path e.thing)
    (λ e is.
    let used = is.0 in
    (omega (arith, used), ref_rest up i k body kids rest e.thing.ref (once (owner e.thing.ref)) used ∙ is.1))
    (entries (suc i) rest) (placed up (suc i) rest behind_once told.2))

-- the entries of a proper source have the paths of their nodes and attributes
pub entries_placed : (names : List NameParts) (source : Source) → IsProper names source → AllByRecursion (λ (e : Entry). path_of source e.thing.ref ≡ Some e.path) (entries_of source)
entries_placed names source proper =
    all_weaker (λ (e : Entry). IsPlaced None 0 source.tree e.path e.thing) (λ (e : Entry). path_of source e.thing.ref ≡ Some e.path) (λ e is. ref_path-of source e.thing.ref ∙ is.1) (entries_of source)
    (placed None 0 source.tree proper.distinct (subst AreTold (sym proper.rooted) (tt, told_nodes names proper.top proper.nodes, tt)))
