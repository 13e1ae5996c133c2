-- What the cells of a node say: what it is, its parent, its children, its characters, and its attributes (XPath 1.0, section 5).
use Rattle.std.specs.Prelude.{ℕ, ◌==◌, Bool, List, [], ◌∷◌, map, Option, Some, None, is_some, if◌then◌else◌}
use Rattle.std.specs.Option.{option_map, option_and_then}
use Rattle.serna_kinds.specs.declared.cells.NodeName.{NodeName}
use Rattle.serna_kinds.specs.declared.cells.NameId.{NameId}
use Rattle.serna_kinds.specs.declared.cells.NodeRef.{NodeRef}
use Rattle.serna_kinds.specs.declared.cells.NodeRef.TheVariants as ref
use Rattle.serna_kinds.specs.declared.cells.AttrPair.{AttrPair}
use Rattle.serna_kinds.specs.declared.cells.Kind.{Kind}
use Rattle.source_model.specs.Source.{Body, Root, Element, Text, Comment, Forest, Source, numbers}
use Rattle.source_model.specs.Cells.{Spot, spot_of, kind_of, name_of, named}
use Rattle.source_model.specs.Attributes.{pairs_of}

abbrev pub label_of : Spot → Kind × Option NameId
label_of spot = (kind_of spot.body, name_of spot.body)

abbrev pub children_in : Body → Forest → List NodeName
children_in Root kids = map named (numbers kids)
children_in (Element name attributes) kids = map named (numbers kids)
children_in (Text text) kids = []
children_in (Comment text) kids = []

abbrev pub children_of : Spot → List NodeName
children_of spot = children_in spot.body spot.kids

abbrev pub characters_in : Body → List ℕ
characters_in Root = []
characters_in (Element name attributes) = []
characters_in (Text text) = text
characters_in (Comment text) = text

abbrev pub characters_of : Spot → List ℕ
characters_of spot = characters_in spot.body

abbrev pub parent_of : Spot → Option NodeName
parent_of spot = option_map named spot.up

abbrev pub attributes_of : Spot → List AttrPair
attributes_of spot = pairs_of spot.body

-- the value of the first attribute of a name's number
abbrev pub value_among : NameId → List AttrPair → Option (List ℕ)
value_among name [] = None
value_among name (pair ∷ pairs) = if pair.name.0 == name.0 then Some pair.value else value_among name pairs

-- the value of an attribute of the node of a number; None where there is no such node or attribute
abbrev pub value_of : Source → NodeName → NameId → Option (List ℕ)
value_of source n name = option_and_then (λ (spot : Spot). value_among name (attributes_of spot)) (spot_of source n.0)

-- a node is in the source
abbrev pub is_here : Source → NodeRef → Bool
is_here source (ref.Node n) = is_some (spot_of source n.0)
is_here source (ref.Attr n name) = is_some (value_of source n name)

-- the parent, the children and the attributes of the node of a number; none where it is not there
abbrev pub parent_at : Source → NodeName → Option NodeName
parent_at source n = option_and_then parent_of (spot_of source n.0)

abbrev pub kids_at : Source → NodeName → List NodeName
kids_at source n = elim (spot_of source n.0) [ None ↦ [] | Some spot ↦ children_of spot ]

abbrev pub attributes_at : Source → NodeName → List AttrPair
attributes_at source n = elim (spot_of source n.0) [ None ↦ [] | Some spot ↦ attributes_of spot ]
