-- What a test takes of nodes that were come to, and of an element's attributes (XPath 1.0, section 2.3).
use Rattle.std.specs.Prelude.{List, [], ◌∷◌, Option, Some, None, if◌then◌else◌}
use Rattle.std.specs.List.{flat_map}
use Rattle.serna_kinds.specs.declared.cells.NameId.{NameId}
use Rattle.serna_kinds.specs.declared.cells.NodeName.{NodeName}
use Rattle.serna_kinds.specs.declared.cells.NodeRef.{NodeRef}
use Rattle.serna_kinds.specs.declared.cells.NodeRef.TheVariants as ref
use Rattle.serna_kinds.specs.declared.cells.AttrPair.{AttrPair}
use Rattle.serna_kinds.specs.declared.cells.Kind.{Kind}
use Rattle.serna_kinds.specs.declared.expressions.Axis.{Axis}
use Rattle.serna_kinds.specs.declared.expressions.Axis.TheVariants as axis
use Rattle.serna_kinds.specs.declared.expressions.NodeTest.{NodeTest}
use Rattle.serna_kinds.specs.Names.{NameParts}
use Rattle.source_model.specs.Source.{Source}
use Rattle.source_model.specs.Cells.{spot_of}
use Rattle.source_model.specs.Axes.{takes}
use Rattle.xpath_axes.specs.Nodes.{label_of, attributes_at}

-- the node, where the test takes what has this label
abbrev pub taken : List NameParts → Axis → NodeTest → NodeName → Option (Kind × Option NameId) → List NodeRef
taken names along test n None = []
taken names along test n (Some label) = if takes names along test (Some label.0) label.1 then ref.Node n ∷ [] else []

abbrev pub taken_at : List NameParts → Axis → NodeTest → Source → NodeName → List NodeRef
taken_at names along test source n = elim (spot_of source n.0) [ None ↦ [] | Some spot ↦ taken names along test n (Some (label_of spot)) ]

abbrev pub taken_along : List NameParts → Axis → NodeTest → Source → List NodeName → List NodeRef
taken_along names along test source nodes = flat_map (taken_at names along test source) nodes

-- the attribute of that name, where the test takes it
abbrev pub taken_attribute : List NameParts → Axis → NodeTest → NodeName → NameId → List NodeRef
taken_attribute names along test n name = if takes names along test None (Some name) then ref.Attr n name ∷ [] else []

abbrev pub taken_attributes : List NameParts → Axis → NodeTest → NodeName → List AttrPair → List NodeRef
taken_attributes names along test n pairs = flat_map (λ (pair : AttrPair). taken_attribute names along test n pair.name) pairs

-- an element's attributes on an axis: those on the axis `attribute`, none on another
abbrev pub attributes_on : List NameParts → Axis → NodeTest → Source → NodeName → List NodeRef
attributes_on names axis.Attribute test source n = taken_attributes names axis.Attribute test n (attributes_at source n)
attributes_on names axis.Child test source n = []
attributes_on names axis.Descendant test source n = []
attributes_on names axis.Itself test source n = []
attributes_on names axis.DescendantOrSelf test source n = []
attributes_on names axis.AncestorOrSelf test source n = []
attributes_on names axis.Parent test source n = []
attributes_on names axis.Ancestor test source n = []
attributes_on names axis.FollowingSibling test source n = []
attributes_on names axis.PrecedingSibling test source n = []
attributes_on names axis.Following test source n = []
attributes_on names axis.Preceding test source n = []

-- the attribute itself, on the axes that begin with where they go from
abbrev pub self_on : List NameParts → Axis → NodeTest → NodeName → NameId → List NodeRef
self_on names axis.Itself test n name = taken_attribute names axis.Itself test n name
self_on names axis.DescendantOrSelf test n name = taken_attribute names axis.DescendantOrSelf test n name
self_on names axis.AncestorOrSelf test n name = taken_attribute names axis.AncestorOrSelf test n name
self_on names axis.Attribute test n name = []
self_on names axis.Child test n name = []
self_on names axis.Descendant test n name = []
self_on names axis.Parent test n name = []
self_on names axis.Ancestor test n name = []
self_on names axis.FollowingSibling test n name = []
self_on names axis.PrecedingSibling test n name = []
self_on names axis.Following test n name = []
self_on names axis.Preceding test n name = []
