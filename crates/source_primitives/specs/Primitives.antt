-- The smallest changes of a source, and what takes each back (this project's own).
use Rattle.std.specs.Prelude.{◌≡◌, ℕ, ◌+◌, ◌<◌, ◌≤◌, List, [], ◌∷◌, ◌++◌, max, length, insert, fold, Option, Some, None, IsSome, unwrap_or, encode_utf8_all}
use Rattle.std.specs.Option.{option_map_or}
use Rattle.serna_kinds.specs.Texts.{IsPlaceIn, inserted, removed}
use Rattle.source_model.specs.Source.{Body, Root, Element, Text, Comment, Forest, none, node, Source, numbers}
use Rattle.source_model.specs.Cells.{Spot, named, spot_of}
use Rattle.source_model.specs.Changes.{text_at, pairs_at, between, with_text, with_attributes, with_kids, inserted_at, removed_at, alone_at, greatest}
use Rattle.source_model.specs.Attributes.{pair_of, value_among, place_among, with_value, without_name}
use Rattle.source_model.specs.Proper.{uses, depth_of, IsShort, AreNodes}
use Rattle.source_model.specs.Consistent.{AreLeaves, AreShort}
use Rattle.serna_kinds.specs.declared.cells.NameId.{NameId}
use Rattle.serna_kinds.specs.declared.cells.NodeName.{NodeName}
use Rattle.serna_kinds.specs.Limits.{text_limit, node_limit, depth_limit}
use Rattle.serna_kinds.specs.Names.{NameParts}
use Rattle.source_primitives.specs.declared.primitive.Primitive.{Primitive}
use Rattle.source_primitives.specs.declared.primitive.Primitive.TheVariants.{InsertText, RemoveText, InsertChild, RemoveChild, SetAttr, RemoveAttr, PutAttr}
use Rattle.source_primitives.specs.declared.primitive.SubItem.{SubItem}
use Rattle.source_primitives.specs.declared.primitive.SubItem.TheVariants as item

-- a node in front of the innermost of the forests that are being read back, or with it as its children and in front of the next
abbrev pub before_first : ℕ → Body → List Forest → List Forest
before_first n body [] = []
before_first n body (rest ∷ more) = node n body none rest ∷ more

abbrev pub above_first : ℕ → Body → List Forest → List Forest
above_first n body [] = []
above_first n body (kids ∷ []) = []
above_first n body (kids ∷ rest ∷ more) = node n body kids rest ∷ more

-- the forests that items leave to what stands before them, the innermost first
abbrev pub read_back : List SubItem → List Forest
read_back [] = none ∷ []
read_back (item.Begin number name attributes ∷ items) = above_first number.0 (Element name attributes) (read_back items)
read_back (item.Text number text ∷ items) = before_first number.0 (Text text) (read_back items)
read_back (item.Comment number text ∷ items) = before_first number.0 (Comment text) (read_back items)
read_back (item.Finish ∷ items) = none ∷ read_back items

abbrev pub first_forest : List Forest → Forest
first_forest [] = none
first_forest (forest ∷ more) = forest

-- the nodes that the items of a subtree make
abbrev pub subtree : List SubItem → Forest
subtree items = first_forest (read_back items)

-- the source with its nodes changed
abbrev pub with_tree : Source → Forest → Source
with_tree source tree = record { tree = tree; made = source.made; spaces = source.spaces }

-- the source with nodes put among the children of a node; their numbers are made
abbrev pub with_nodes : Source → ℕ → ℕ → Forest → Source
with_nodes source parent place more =
    record { tree = with_kids parent (inserted_at place more) source.tree; made = max source.made (greatest more); spaces = source.spaces }

-- what a prim makes of a source
abbrev pub applied : Primitive → Source → Source
applied (InsertText text place piece) source = with_tree source (with_text text.0 (inserted place piece) source.tree)
applied (RemoveText text from to) source = with_tree source (with_text text.0 (removed from to) source.tree)
applied (InsertChild parent place items) source = with_nodes source parent.0 place (subtree items)
applied (RemoveChild parent place) source = with_tree source (with_kids parent.0 (removed_at place) source.tree)
applied (SetAttr element name value) source = with_tree source (with_attributes element.0 (with_value name value) source.tree)
applied (RemoveAttr element name) source = with_tree source (with_attributes element.0 (without_name name) source.tree)
applied (PutAttr element place name value) source = with_tree source (with_attributes element.0 (λ pairs. insert pairs place (pair_of name value)) source.tree)

-- what prims make of it, one after another
abbrev pub applied_all : List Primitive → Source → Source
applied_all prims source = fold (λ source prim. applied prim source) source prims

-- a node's items in front of those that follow it, where its children have these
abbrev pub own_items : ℕ → Body → List SubItem → List SubItem → List SubItem
own_items n Root inner later = later
own_items n (Element name attributes) inner later = item.Begin (named n) name attributes ∷ (inner ++ (item.Finish ∷ later))
own_items n (Text text) inner later = item.Text (named n) text ∷ later
own_items n (Comment text) inner later = item.Comment (named n) text ∷ later

-- the items of neighbours and of all below them, with their numbers and attributes
abbrev pub items_of : Forest → List SubItem
items_of none = []
items_of (node n body kids rest) = own_items n body (items_of kids) (items_of rest)

-- the prim that gives an attribute its old value again, or takes it out where there was none
abbrev pub old_value : NodeName → NameId → Option (List ℕ) → Primitive
old_value element name None = RemoveAttr element name
old_value element name (Some value) = SetAttr element name value

-- the prim that takes a prim back, told of the source before it: what was put in goes out again, and what was taken out, as it stood
-- there, comes in again
abbrev pub inverse : Primitive → Source → Primitive
inverse (InsertText text place piece) source = RemoveText text place (place + length (encode_utf8_all piece))
inverse (RemoveText text from to) source = InsertText text from (option_map_or (between from to) (text_at source text.0) [])
inverse (InsertChild parent place items) source = RemoveChild parent place
inverse (RemoveChild parent place) source =
    InsertChild parent place (option_map_or (λ (spot : Spot). items_of (alone_at place spot.kids)) (spot_of source parent.0) [])
inverse (SetAttr element name value) source = old_value element name (value_among name (pairs_at source element.0))
inverse (RemoveAttr element name) source =
    PutAttr element (place_among name (pairs_at source element.0)) name (unwrap_or (value_among name (pairs_at source element.0)) [])
inverse (PutAttr element place name value) source = RemoveAttr element name

-- the prims that take prims back, each told of the source before it, in the order of the prims: the last one goes first
abbrev pub inverses : List Primitive → Source → List Primitive
inverses [] source = []
inverses (prim ∷ prims) source = inverse prim source ∷ inverses prims (applied prim source)

-- a text or a comment of the next number
abbrev pub IsNewLeaf : ℕ → List SubItem → Type 0
IsNewLeaf made [] = ⊥
IsNewLeaf made (item.Begin number name attributes ∷ items) = ⊥
IsNewLeaf made (item.Text number text ∷ items) = (number.0 ≡ made + 1) × (length (encode_utf8_all text) ≤ text_limit) × (items ≡ [])
IsNewLeaf made (item.Comment number text ∷ items) = (number.0 ≡ made + 1) × (items ≡ [])
IsNewLeaf made (item.Finish ∷ items) = ⊥

abbrev pub IsElement : Body → Type 0
IsElement Root = ⊥
IsElement (Element name attributes) = Unit {0}
IsElement (Text text) = ⊥
IsElement (Comment text) = ⊥

-- an element with at least so many children
abbrev pub HasPlace : Source → ℕ → ℕ → Type 0
HasPlace source n place = (spot : Spot) × (spot_of source n ≡ Some spot) × IsElement spot.body × (place ≤ length (numbers spot.kids))

-- a text node with such a place, and room for so many bytes more
abbrev pub HasRoom : Source → ℕ → ℕ → ℕ → Type 0
HasRoom source n place more = (text : List ℕ) × (text_at source n ≡ Some text) × IsPlaceIn text place × (length (encode_utf8_all text) + more ≤ text_limit)

-- a node alone, with all below it
abbrev pub IsSingle : Forest → Type 0
IsSingle none = ⊥
IsSingle (node n body kids rest) = rest ≡ none

-- Items that may be put in below a node: those of one element, text or comment with all below it. Its numbers stand nowhere else, and
-- those past the last one that was made are the next ones; texts, values, elements and numbers are within their limits.
pub record IsSubtree (source : Source) (parent place : ℕ) (items : List SubItem) : Type 0 where
  pub one : Forest
  pub single : IsSingle one
  pub leaves : AreLeaves one
  pub is : items ≡ items_of one
  pub short : AreShort one
  pub distinct : (n : ℕ) → uses n one + uses n source.tree ≤ 1
  pub next : (n : ℕ) → source.made < n → n ≤ greatest one → 0 < uses n one
  pub few : greatest one ≤ node_limit
  pub shallow : depth_of (with_kids parent (inserted_at place one) source.tree) ≤ depth_limit

-- a text with two places, one not behind the other
abbrev pub HasPart : Source → ℕ → ℕ → ℕ → Type 0
HasPart source n from to = (text : List ℕ) × (text_at source n ≡ Some text) × IsPlaceIn text from × IsPlaceIn text to × (from ≤ to)

-- an element with at least one child more
abbrev pub HasChild : Source → ℕ → ℕ → Type 0
HasChild source n place = (spot : Spot) × (spot_of source n ≡ Some spot) × IsElement spot.body × (place < length (numbers spot.kids))

abbrev pub HasElement : Source → ℕ → Type 0
HasElement source n = (spot : Spot) × (spot_of source n ≡ Some spot) × IsElement spot.body

-- when a prim may be applied: its place is there, and the limits hold in what it leaves
abbrev pub MayApply : Primitive → Source → Type 0
MayApply (InsertText text place piece) source = HasRoom source text.0 place (length (encode_utf8_all piece))
MayApply (RemoveText text from to) source = HasPart source text.0 from to
MayApply (InsertChild parent place items) source = HasPlace source parent.0 place × IsSubtree source parent.0 place items
MayApply (RemoveChild parent place) source = HasChild source parent.0 place
MayApply (SetAttr element name value) source = HasElement source element.0 × IsShort value
MayApply (RemoveAttr element name) source = HasElement source element.0 × IsSome (value_among name (pairs_at source element.0))
MayApply (PutAttr element place name value) source =
    HasElement source element.0 × (value_among name (pairs_at source element.0) ≡ None) × (place ≤ length (pairs_at source element.0)) × IsShort value

-- when prims may be applied one after another, each to what those before it leave
abbrev pub MayApplyAll : List Primitive → Source → Type 0
MayApplyAll [] source = Unit {0}
MayApplyAll (prim ∷ prims) source = MayApply prim source × MayApplyAll prims (applied prim source)

-- what typing does, and all that can be applied so far: characters are put in, or a new text or comment
abbrev pub MayType : Primitive → Source → Type 0
MayType (InsertText text place piece) source = HasRoom source text.0 place (length (encode_utf8_all piece))
MayType (RemoveText text from to) source = ⊥
MayType (InsertChild parent place items) source = HasPlace source parent.0 place × IsNewLeaf source.made items × (source.made < node_limit)
MayType (RemoveChild parent place) source = ⊥
MayType (SetAttr element name value) source = ⊥
MayType (RemoveAttr element name) source = ⊥
MayType (PutAttr element place name value) source = ⊥

-- a prim keeps a source proper: more characters always do, and nodes where the children with them are proper
abbrev pub KeepsProper : List NameParts → Primitive → Source → Type 0
KeepsProper names (InsertText text place piece) source = Unit {0}
KeepsProper names (RemoveText text from to) source = ⊥
KeepsProper names (InsertChild parent place items) source =
    (spot : Spot) → spot_of source parent.0 ≡ Some spot → AreNodes names (inserted_at place (subtree items) spot.kids)
KeepsProper names (RemoveChild parent place) source = ⊥
KeepsProper names (SetAttr element name value) source = ⊥
KeepsProper names (RemoveAttr element name) source = ⊥
KeepsProper names (PutAttr element place name value) source = ⊥
