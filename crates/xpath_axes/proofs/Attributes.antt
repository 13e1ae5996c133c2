-- The axis `attribute` is an element's attributes, and their names are known.
use Rattle.std.proofs.Common.{◌≡◌, ℕ, suc, ◌&&◌, ◌++◌, inl, inr, Bool, false, List, [], ◌∷◌, map, Option, Some, None, if◌then◌else◌, refl, sym, ap, subst, ◌∙◌}
use Rattle.std.proofs.lemmas.List.{append-nil}
use Rattle.serna_kinds.specs.declared.cells.NameId.{NameId}
use Rattle.serna_kinds.specs.declared.cells.NodeName.{NodeName}
use Rattle.serna_kinds.specs.declared.cells.NodeRef.{NodeRef}
use Rattle.serna_kinds.specs.declared.cells.NodeRef.TheVariants as ref
use Rattle.serna_kinds.specs.declared.cells.AttrPair.{AttrPair}
use Rattle.serna_kinds.specs.declared.expressions.Axis.{Axis}
use Rattle.serna_kinds.specs.declared.expressions.Axis.TheVariants as axis
use Rattle.serna_kinds.specs.declared.expressions.NodeTest.{NodeTest}
use Rattle.serna_kinds.specs.Names.{NameParts, Grows}
use Rattle.source_model.specs.Source.{Body, Root, Element, Text, Comment, Forest, none, node, Source}
use Rattle.source_model.specs.Cells.{Spot, named}
use Rattle.source_model.specs.Changes.{beside}
use Rattle.source_model.specs.Proper.{IsProper}
use Rattle.source_model.specs.Named.{own_names, names_in, AreKnown}
use Rattle.source_model.specs.Paths.{Path, attribute_entries, entries}
use Rattle.source_model.specs.Attributes.{pairs_of}
use Rattle.source_model.specs.Axes.{axis_of, tested, pick, is_step, takes, HasTest}
use Rattle.source_model.proofs.NamesGrown.{names-known}
use Rattle.source_model.proofs.Children.{Passes, own, pick-append, pick_later}
use Rattle.xpath_axes.specs.Nodes.{kids_at, attributes_at, attributes_of}
use Rattle.xpath_axes.specs.Taken.{taken_along, taken_attribute, taken_attributes, attributes_on}
use Rattle.xpath_axes.specs.Walks.{levels, below, outward, nodes_on}
use Rattle.xpath_axes.proofs.TestLemmas.{takes-grown}
use Rattle.xpath_axes.proofs.Ways.{Way, here, inside, plug, put_front}
use Rattle.xpath_axes.proofs.Stands.{Stands, stands}
use Rattle.xpath_axes.proofs.NodeAxes.{axis_at, axis_gone, outward_gone, following_on, preceding_on, ancestor_on, parent_on, siblings_behind_on, siblings_before_on}
use Rattle.xpath_axes.proofs.Inward.{axis_down, child_on, descendant_on, self_at, below_or_self_at, above_or_self_at, kids_gone}
use Rattle.xpath_axes.proofs.Totals.{taken_on, gone_self}

-- the names of a node's attributes are the table's
known_back : (names : List NameParts) (xs ys : List NameId) → AreKnown names (xs ++ ys) → AreKnown names ys
known_back names [] ys known = known
known_back names (x ∷ xs) ys known = known_back names xs ys known.1

known_front : (names : List NameParts) (xs ys : List NameId) → AreKnown names (xs ++ ys) → AreKnown names xs
known_front names [] ys known = tt
known_front names (x ∷ xs) ys known = (known.0, known_front names xs ys known.1)

known_beside : (names : List NameParts) (before g : Forest) → AreKnown names (names_in (beside before g)) → AreKnown names (names_in g)
known_beside names none g known = known
known_beside names (node n body kids rest) g known =
    known_beside names rest g (known_back names (names_in kids) (names_in (beside rest g)) (known_back names (own_names body) (names_in kids ++ names_in (beside rest g)) known))

known_plug : (names : List NameParts) (way : Way) (n : ℕ) (body : Body) (kids : Forest) → AreKnown names (names_in (plug way n body kids)) → AreKnown names (own_names body)
known_plug names (here before after) n body kids known =
    known_front names (own_names body) (names_in kids ++ names_in after) (known_beside names before (node n body kids after) known)
known_plug names (inside before k outer after way) n body kids known =
    let at = known_beside names before (node k outer (plug way n body kids) after) known in
    known_plug names way n body kids
    (known_front names (names_in (plug way n body kids)) (names_in after) (known_back names (own_names outer) (names_in (plug way n body kids) ++ names_in after) at))

abbrev pub pair_names : List AttrPair → List NameId
pair_names pairs = map (λ (pair : AttrPair). pair.name) pairs

own_pairs : (names : List NameParts) (body : Body) → AreKnown names (own_names body) → AreKnown names (pair_names (pairs_of body))
own_pairs names Root known = tt
own_pairs names (Element name pairs) known = known.1
own_pairs names (Text text) known = tt
own_pairs names (Comment text) known = tt

pub pairs_at : (source : Source) (n : ℕ) (s : Stands source n) → attributes_at source (named n) ≡ pairs_of s.body
pairs_at source n s = ap (λ (o : Option Spot). elim o [ None ↦ [] | Some spot ↦ attributes_of spot ]) s.stood.end.there.1

pub pairs_known : (names : List NameParts) (source : Source) (n : NodeName) → IsProper names source → AreKnown names (pair_names (attributes_at source n))
pairs_known names source n proper = elim (stands names source n.0 proper) [
  | inl s ↦
      subst (λ (pairs : List AttrPair). AreKnown names (pair_names pairs)) (sym (pairs_at source n.0 s))
      (own_pairs names s.body (known_plug names s.way n.0 s.body s.kids (subst (λ (f : Forest). AreKnown names (names_in f)) s.tree_is (names-known names source proper))))
  | inr gone ↦ subst (λ (o : Option Spot). AreKnown names (pair_names (elim o [ None ↦ [] | Some spot ↦ attributes_of spot ]))) (sym gone.spot_is) tt
]

pub pairs-grown : (names table : List NameParts) (along : Axis) (t : NodeTest) (n : NodeName) (pairs : List AttrPair) → Grows names table → HasTest names t → AreKnown names (pair_names pairs) →
    taken_attributes names along t n pairs ≡ taken_attributes table along t n pairs
pairs-grown names table along t n [] grows has known = refl
pairs-grown names table along t n (pair ∷ pairs) grows has known =
    let one = takes-grown names table along t None (Some pair.name) grows has known.0 in
    let more = pairs-grown names table along t n pairs grows has known.1 in
    λ i. (if sym one i then ref.Attr n pair.name ∷ [] else []) ++ more i

-- the axis
attributes_picked : (table : List NameParts) (t : NodeTest) (n i : ℕ) (pairs : List AttrPair) →
    pick (λ q x. is_step 0 q && tested table axis.Attribute t x) (attribute_entries n i pairs) ≡ taken_attributes table axis.Attribute t (named n) pairs
attributes_picked table t n i [] = refl
attributes_picked table t n i (pair ∷ pairs) =
    put_front (takes table axis.Attribute t None (Some pair.name)) (ref.Attr (named n) pair.name) (pick (λ q x. is_step 0 q && tested table axis.Attribute t x) (attribute_entries n (suc i) pairs))
    ∙ ap (λ (l : List NodeRef). taken_attribute table axis.Attribute t (named n) pair.name ++ l) (attributes_picked table t n (suc i) pairs)

no_step : (j : ℕ) (m : Path) → is_step 0 ((1, j) ∷ m) ≡ false
no_step j [] = refl
no_step j (s ∷ m) = refl

own_attributes : (table : List NameParts) (t : NodeTest) (n : ℕ) (body : Body) (kids : Forest) →
    pick (λ q x. is_step 0 q && tested table axis.Attribute t x) (own n body kids) ≡ taken_attributes table axis.Attribute t (named n) (pairs_of body)
own_attributes table t n body kids =
    let g : Passes = λ q x. is_step 0 q && tested table axis.Attribute t x in
    pick-append g (attribute_entries n 0 (pairs_of body)) (entries 0 kids)
    ∙ ap (λ (l : List NodeRef). pick g (attribute_entries n 0 (pairs_of body)) ++ l) (pick_later g 0 (λ j m x less. ap (λ (b : Bool). b && tested table axis.Attribute t x) (no_step j m)) kids)
    ∙ append-nil (pick g (attribute_entries n 0 (pairs_of body))) ∙ attributes_picked table t n 0 (pairs_of body)

attribute_axis : (table : List NameParts) (t : NodeTest) (source : Source) (n : NodeName) → IsProper table source →
    taken_attributes table axis.Attribute t n (attributes_at source n) ≡ axis_of table axis.Attribute t source (ref.Node n)
attribute_axis table t source n proper = elim (stands table source n.0 proper) [
  | inl s ↦
      ap (taken_attributes table axis.Attribute t n) (pairs_at source n.0 s)
      ∙ sym (axis_at table axis.Attribute t source n.0 s (taken_attributes table axis.Attribute t n (pairs_of s.body))
      (axis_down table axis.Attribute t source n.0 s (is_step 0) (taken_attributes table axis.Attribute t n (pairs_of s.body)) (λ m. refl) (own_attributes table t n.0 s.body s.kids)))
  | inr gone ↦
      ap (λ (o : Option Spot). taken_attributes table axis.Attribute t n (elim o [ None ↦ [] | Some spot ↦ attributes_of spot ])) gone.spot_is
      ∙ sym (axis_gone table axis.Attribute t source n.0 gone)
]

-- what is taken from a node, on every axis
pub node_axis : (table : List NameParts) (along : Axis) (t : NodeTest) (source : Source) (n : NodeName) → IsProper table source →
    attributes_on table along t source n ++ taken_along table along t source (nodes_on along source n) ≡ axis_of table along t source (ref.Node n)
node_axis table axis.Attribute t source n proper = append-nil (taken_attributes table axis.Attribute t n (attributes_at source n)) ∙ attribute_axis table t source n proper
node_axis table axis.Child t source n proper = taken_on table axis.Child t source n.0 (kids_at source n) (child_on table source n.0 proper)
node_axis table axis.Descendant t source n proper = taken_on table axis.Descendant t source n.0 (below source levels (kids_at source n)) (descendant_on table source n.0 proper)
node_axis table axis.Itself t source n proper = elim (stands table source n.0 proper) [
  | inl s ↦ taken_on table axis.Itself t source n.0 (n ∷ []) (self_at source n.0 s)
  | inr gone ↦ gone_self table axis.Itself t source n.0 [] gone refl
]
node_axis table axis.DescendantOrSelf t source n proper = elim (stands table source n.0 proper) [
  | inl s ↦ taken_on table axis.DescendantOrSelf t source n.0 (n ∷ below source levels (kids_at source n)) (below_or_self_at table source n.0 proper s)
  | inr gone ↦ gone_self table axis.DescendantOrSelf t source n.0 (below source levels (kids_at source n)) gone (ap (below source levels) (kids_gone source n.0 gone))
]
node_axis table axis.AncestorOrSelf t source n proper = elim (stands table source n.0 proper) [
  | inl s ↦ taken_on table axis.AncestorOrSelf t source n.0 (n ∷ outward axis.AncestorOrSelf source levels n) (above_or_self_at source n.0 s)
  | inr gone ↦ gone_self table axis.AncestorOrSelf t source n.0 (outward axis.AncestorOrSelf source levels n) gone (outward_gone axis.AncestorOrSelf source levels n.0 gone.spot_is)
]
node_axis table axis.Parent t source n proper = taken_on table axis.Parent t source n.0 (outward axis.Parent source 1 n) (parent_on table source n.0 proper)
node_axis table axis.Ancestor t source n proper = taken_on table axis.Ancestor t source n.0 (outward axis.Ancestor source levels n) (ancestor_on table source n.0 proper)
node_axis table axis.FollowingSibling t source n proper = taken_on table axis.FollowingSibling t source n.0 (outward axis.FollowingSibling source 1 n) (siblings_behind_on table source n.0 proper)
node_axis table axis.PrecedingSibling t source n proper = taken_on table axis.PrecedingSibling t source n.0 (outward axis.PrecedingSibling source 1 n) (siblings_before_on table source n.0 proper)
node_axis table axis.Following t source n proper = taken_on table axis.Following t source n.0 (outward axis.Following source levels n) (following_on table source n.0 proper)
node_axis table axis.Preceding t source n proper = taken_on table axis.Preceding t source n.0 (outward axis.Preceding source levels n) (preceding_on table source n.0 proper)
