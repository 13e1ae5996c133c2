-- Each axis from an attribute is what a walk from its element comes to, behind the attribute itself where the axis begins with it.
use Rattle.std.proofs.Common.{◌≡◌, ℕ, suc, ◌&&◌, ◌++◌, inl, inr, Bool, List, [], ◌∷◌, map, Option, Some, None, if◌then◌else◌, refl, sym, ap, subst, ◌∙◌}
use Rattle.std.specs.Option.{option_map, option_and_then}
use Rattle.std.proofs.lemmas.Option.{none-some}
use Rattle.std.proofs.lemmas.Bool.{cases_eq, ne_eqb}
use Rattle.serna_kinds.specs.declared.cells.NameId.{NameId}
use Rattle.serna_kinds.specs.declared.cells.NodeName.{NodeName}
use Rattle.serna_kinds.specs.declared.cells.NodeRef.{NodeRef}
use Rattle.serna_kinds.specs.declared.cells.NodeRef.TheVariants as ref
use Rattle.serna_kinds.specs.declared.cells.AttrPair.{AttrPair}
use Rattle.serna_kinds.specs.declared.expressions.Axis.{Axis}
use Rattle.serna_kinds.specs.declared.expressions.Axis.TheVariants as axis
use Rattle.serna_kinds.specs.declared.expressions.NodeTest.{NodeTest}
use Rattle.serna_kinds.specs.declared.expressions.NodeTest.TheVariants as test
use Rattle.serna_kinds.specs.Names.{NameParts, Grows}
use Rattle.source_model.specs.Source.{Source}
use Rattle.source_model.specs.Cells.{Spot, spot_of, named}
use Rattle.source_model.specs.Proper.{IsProper}
use Rattle.source_model.specs.Named.{HasName, AreKnown}
use Rattle.source_model.specs.Paths.{Path, path_in, attribute_place, entries_of}
use Rattle.source_model.specs.Attributes.{pairs_of}
use Rattle.source_model.specs.Axes.{axis_of, tested, pick, in_order, meets, HasTest}
use Rattle.source_model.specs.Logged.{every}
use Rattle.xpath_axes.specs.Nodes.{attributes_at, attributes_of}
use Rattle.xpath_axes.specs.Taken.{taken_along, taken_attribute, self_on}
use Rattle.xpath_axes.specs.Walks.{nodes_from}
use Rattle.xpath_axes.proofs.Attributes.{pair_names, pairs_at}
use Rattle.xpath_axes.proofs.FromAttribute.{FromIt, from_child, from_attribute, from_descendant, from_self, from_below_or_self, from_siblings_behind, from_siblings_before, from_following, from_preceding, from_ancestor, from_parent, from_ancestor_or_self}
use Rattle.xpath_axes.proofs.Stands.{Stands, stands}
use Rattle.xpath_axes.proofs.TestLemmas.{takes-grown}
use Rattle.xpath_axes.proofs.Totals.{taken_took, took_all}

from_at : (names : List NameParts) (along : Axis) (source : Source) (n q : ℕ) (name : NameId) (s : Stands source n) → attribute_place name 0 (pairs_of s.body) ≡ Some q → IsProper names source →
    FromIt along source n name (nodes_from along source (named n))
from_at names axis.Child source n q name s at proper = from_child names source n q name s at proper
from_at names axis.Attribute source n q name s at proper = from_attribute names source n q name s at proper
from_at names axis.Descendant source n q name s at proper = from_descendant names source n q name s at proper
from_at names axis.Itself source n q name s at proper = from_self names source n q name s at proper
from_at names axis.DescendantOrSelf source n q name s at proper = from_below_or_self names source n q name s at proper
from_at names axis.AncestorOrSelf source n q name s at proper = from_ancestor_or_self names source n q name s at proper
from_at names axis.Parent source n q name s at proper = from_parent names source n q name s at proper
from_at names axis.Ancestor source n q name s at proper = from_ancestor names source n q name s at proper
from_at names axis.FollowingSibling source n q name s at proper = from_siblings_behind names source n q name s at proper
from_at names axis.PrecedingSibling source n q name s at proper = from_siblings_before names source n q name s at proper
from_at names axis.Following source n q name s at proper = from_following names source n q name s at proper
from_at names axis.Preceding source n q name s at proper = from_preceding names source n q name s at proper

-- an attribute that its element's cell has
pub found_from : (names : List NameParts) (along : Axis) (source : Source) (n : NodeName) (name : NameId) (q : ℕ) → IsProper names source → attribute_place name 0 (attributes_at source n) ≡ Some q →
    FromIt along source n.0 name (nodes_from along source n)
found_from names along source n name q proper at = elim (stands names source n.0 proper) [
  | inl s ↦ from_at names along source n.0 q name s (subst (λ (pairs : List AttrPair). attribute_place name 0 pairs ≡ Some q) (pairs_at source n.0 s) at) proper
  | inr gone ↦ absurd (none-some q (sym (ap (λ (o : Option Spot). attribute_place name 0 (elim o [ None ↦ [] | Some spot ↦ attributes_of spot ])) gone.spot_is) ∙ at))
]

-- what is taken from it, on every axis
pub attribute_axis_from : (table : List NameParts) (along : Axis) (t : NodeTest) (source : Source) (n : NodeName) (name : NameId) (q : ℕ) → IsProper table source → attribute_place name 0 (attributes_at source n) ≡ Some q →
    self_on table along t n name ++ taken_along table along t source (nodes_from along source n) ≡ axis_of table along t source (ref.Attr n name)
attribute_axis_from table along t source n name q proper at =
    let found = found_from table along source n name q proper at in
    ap (λ (l : List NodeName). self_on table along t n name ++ taken_along table along t source l) found.names_are
    ∙ ap (λ (l : List NodeRef). self_on table along t n name ++ l) (taken_took table along t source found.listed found.there)
    ∙ sym (found.axis_is table t)

-- an attribute that its element's cell has not
pub path_without : (name : NameId) (p : Option Path) (o : Option Spot) → attribute_place name 0 (elim o [ None ↦ [] | Some spot ↦ attributes_of spot ]) ≡ None →
    option_and_then (λ (path : Path). option_and_then (λ (spot : Spot). option_map (λ i. path ++ (0, i) ∷ []) (attribute_place name 0 (pairs_of spot.body))) o) p ≡ None
path_without name None o none = refl
path_without name (Some path) None none = refl
path_without name (Some path) (Some spot) none = ap (option_map (λ (i : ℕ). path ++ (0, i) ∷ [])) none

pub axis_without : (table : List NameParts) (along : Axis) (t : NodeTest) (source : Source) (n : NodeName) (name : NameId) → attribute_place name 0 (attributes_at source n) ≡ None → axis_of table along t source (ref.Attr n name) ≡ []
axis_without table along t source n name none =
    ap (λ (o : Option Path). elim o [ None ↦ [] | Some p ↦ in_order along (pick (λ m thing. meets along p m && tested table along t thing) (entries_of source)) ])
    (path_without name (path_in n.0 0 source.tree) (spot_of source n.0) none)

-- with no test
pub every_from : (along : Axis) (source : Source) (n : ℕ) (name : NameId) (nodes : List NodeName) → FromIt along source n name nodes → self_on [] along test.AnyNode (named n) name ≡ [] →
    every along source (ref.Attr (named n) name) ≡ map ref.Node nodes
every_from along source n name nodes at alone =
    at.axis_is [] test.AnyNode ∙ (λ i. alone i ++ took_all along at.listed i) ∙ sym (ap (map ref.Node) at.names_are)

-- the attribute's name is the table's
place_known : (names : List NameParts) (name : NameId) (i q : ℕ) (pairs : List AttrPair) → AreKnown names (pair_names pairs) → attribute_place name i pairs ≡ Some q → HasName names (Some name)
place_known names name i q [] known at = absurd (none-some q at)
place_known names name i q (pair ∷ pairs) known at = elim (cases_eq pair.name.0 name.0) [
  | inl same ↦ subst (λ (k : ℕ). HasName names (Some (record { 0 = k }))) same known.0
  | inr other ↦ place_known names name (suc i) q pairs known.1 (sym (ap (λ (b : Bool). if b then Some i else attribute_place name (suc i) pairs) (ne_eqb pair.name.0 name.0 other)) ∙ at)
]

taken-grown : (names table : List NameParts) (along : Axis) (t : NodeTest) (n : NodeName) (name : NameId) → Grows names table → HasTest names t → HasName names (Some name) →
    taken_attribute names along t n name ≡ taken_attribute table along t n name
taken-grown names table along t n name grows has known = ap (λ (b : Bool). if b then ref.Attr n name ∷ [] else []) (sym (takes-grown names table along t None (Some name) grows has known))

self-with : (names table : List NameParts) (along : Axis) (t : NodeTest) (n : NodeName) (name : NameId) → Grows names table → HasTest names t → HasName names (Some name) →
    self_on names along t n name ≡ self_on table along t n name
self-with names table axis.Itself t n name grows has known = taken-grown names table axis.Itself t n name grows has known
self-with names table axis.DescendantOrSelf t n name grows has known = taken-grown names table axis.DescendantOrSelf t n name grows has known
self-with names table axis.AncestorOrSelf t n name grows has known = taken-grown names table axis.AncestorOrSelf t n name grows has known
self-with names table axis.Attribute t n name grows has known = refl
self-with names table axis.Child t n name grows has known = refl
self-with names table axis.Descendant t n name grows has known = refl
self-with names table axis.Parent t n name grows has known = refl
self-with names table axis.Ancestor t n name grows has known = refl
self-with names table axis.FollowingSibling t n name grows has known = refl
self-with names table axis.PrecedingSibling t n name grows has known = refl
self-with names table axis.Following t n name grows has known = refl
self-with names table axis.Preceding t n name grows has known = refl

pub self-grown : (names table : List NameParts) (along : Axis) (t : NodeTest) (n : NodeName) (name : NameId) (q : ℕ) (pairs : List AttrPair) → Grows names table → HasTest names t → AreKnown names (pair_names pairs) →
    attribute_place name 0 pairs ≡ Some q → self_on names along t n name ≡ self_on table along t n name
self-grown names table along t n name q pairs grows has known at = self-with names table along t n name grows has (place_known names name 0 q pairs known at)

-- what a call found in the cell's list is what the source has
pub place_told : (name : NameId) (pairs real : List AttrPair) (found : Option ℕ) (q : ℕ) → found ≡ attribute_place name 0 pairs → found ≡ Some q → pairs ≡ real → attribute_place name 0 real ≡ Some q
place_told name pairs real found q told is same = ap (attribute_place name 0) (sym same) ∙ sym told ∙ is
