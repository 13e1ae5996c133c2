-- The axes (XPath 1.0, section 2.2) as conditions on paths, the node tests (section 2.3), and the string-value (section 5).
use Rattle.std.specs.Prelude.{ℕ, ◌==◌, ◌++◌, ◌&&◌, ◌||◌, Bool, true, false, not, List, [], ◌∷◌, reverse, Option, Some, None, is_none, bytes_eq, slice_get, encode_utf8_all, if◌then◌else◌}
use Rattle.serna_kinds.specs.declared.cells.NameId.{NameId}
use Rattle.serna_kinds.specs.declared.cells.NodeRef.{NodeRef}
use Rattle.serna_kinds.specs.declared.cells.NodeRef.TheVariants as ref
use Rattle.serna_kinds.specs.declared.cells.Kind.{Kind}
use Rattle.serna_kinds.specs.declared.cells.Kind.TheVariants as kind
use Rattle.serna_kinds.specs.declared.cells.AttrPair.{AttrPair}
use Rattle.serna_kinds.specs.declared.expressions.Axis.{Axis}
use Rattle.serna_kinds.specs.declared.expressions.Axis.TheVariants as axis
use Rattle.serna_kinds.specs.declared.expressions.NodeTest.{NodeTest}
use Rattle.serna_kinds.specs.declared.expressions.NodeTest.TheVariants as test
use Rattle.serna_kinds.specs.Names.{NameParts, are_same}
use Rattle.source_model.specs.Source.{Body, Root, Element, Text, Comment, Forest, none, node, Source}
use Rattle.source_model.specs.Cells.{Spot, spot_of}
use Rattle.source_model.specs.Named.{HasName}
use Rattle.source_model.specs.Paths.{Path, Thing, Entry, entries_of, path_of, behind, is_before, same_step}
use Rattle.source_model.specs.Attributes.{pairs_of}

-- one step of a kind, 1 to a child and 0 to an attribute
abbrev pub is_step : ℕ → Path → Bool
is_step k [] = false
is_step k (s ∷ []) = s.0 == k
is_step k (s ∷ t ∷ p) = false

abbrev pub is_any_step : Path → Bool
is_any_step p = is_step 0 p || is_step 1 p

abbrev pub is_empty : Path → Bool
is_empty [] = true
is_empty (s ∷ p) = false

-- the last step goes to a child
abbrev pub ends_at_node : Path → Bool
ends_at_node [] = true
ends_at_node (s ∷ []) = s.0 == 1
ends_at_node (s ∷ t ∷ p) = ends_at_node (t ∷ p)

-- what m has behind n passes
abbrev pub down : (Path → Bool) → Path → Path → Bool
down passes n m = elim (behind n m) [ None ↦ false | Some p ↦ passes p ]

abbrev pub is_below : Path → Bool
is_below p = not (is_empty p)

-- one parent, and neither is an attribute
abbrev pub are_siblings : Path → Path → Bool
are_siblings [] q = false
are_siblings (a ∷ p) [] = false
are_siblings (a ∷ []) (b ∷ []) = a.0 == 1 && b.0 == 1
are_siblings (a ∷ []) (b ∷ c ∷ q) = false
are_siblings (a ∷ c ∷ p) (b ∷ []) = false
are_siblings (a ∷ c ∷ p) (b ∷ d ∷ q) = same_step a b && are_siblings (c ∷ p) (d ∷ q)

-- whether m is on the axis from n
abbrev pub meets : Axis → Path → Path → Bool
meets axis.Child n m = down (is_step 1) n m
meets axis.Attribute n m = down (is_step 0) n m
meets axis.Parent n m = down is_any_step m n
meets axis.Descendant n m = down is_below n m && ends_at_node m
meets axis.Ancestor n m = down is_below m n
meets axis.Itself n m = down is_empty n m
meets axis.DescendantOrSelf n m = down is_empty n m || (down is_below n m && ends_at_node m)
meets axis.AncestorOrSelf n m = down is_empty n m || down is_below m n
meets axis.FollowingSibling n m = are_siblings n m && is_before n m
meets axis.PrecedingSibling n m = are_siblings n m && is_before m n
meets axis.Following n m = ends_at_node m && is_before n m && is_none (behind n m)
meets axis.Preceding n m = ends_at_node m && is_before m n && is_none (behind m n)

-- the four reverse axes
abbrev pub is_reverse : Axis → Bool
is_reverse axis.Child = false
is_reverse axis.Attribute = false
is_reverse axis.Parent = false
is_reverse axis.Descendant = false
is_reverse axis.Ancestor = true
is_reverse axis.Itself = false
is_reverse axis.DescendantOrSelf = false
is_reverse axis.AncestorOrSelf = true
is_reverse axis.FollowingSibling = false
is_reverse axis.PrecedingSibling = true
is_reverse axis.Following = false
is_reverse axis.Preceding = true

-- a name test looks at attributes on the attribute axis and at elements elsewhere
abbrev pub is_kind : Kind → Option Kind → Bool
is_kind kind.Element (Some kind.Element) = true
is_kind kind.Text (Some kind.Text) = true
is_kind kind.Comment (Some kind.Comment) = true
is_kind wanted found = false

abbrev pub has_principal_kind : Axis → Option Kind → Bool
has_principal_kind axis.Attribute k = is_none k
has_principal_kind axis.Child k = is_kind kind.Element k
has_principal_kind axis.Parent k = is_kind kind.Element k
has_principal_kind axis.Descendant k = is_kind kind.Element k
has_principal_kind axis.Ancestor k = is_kind kind.Element k
has_principal_kind axis.Itself k = is_kind kind.Element k
has_principal_kind axis.DescendantOrSelf k = is_kind kind.Element k
has_principal_kind axis.AncestorOrSelf k = is_kind kind.Element k
has_principal_kind axis.FollowingSibling k = is_kind kind.Element k
has_principal_kind axis.PrecedingSibling k = is_kind kind.Element k
has_principal_kind axis.Following k = is_kind kind.Element k
has_principal_kind axis.Preceding k = is_kind kind.Element k

abbrev pub is_in_namespace : List NameParts → List ℕ → Option NameId → Bool
is_in_namespace names uri None = false
is_in_namespace names uri (Some id) = elim (slice_get names id.0) [ None ↦ false | Some parts ↦ bytes_eq parts.uri (encode_utf8_all uri) ]

abbrev pub is_named : List NameParts → NameId → Option NameId → Bool
is_named names wanted None = false
is_named names wanted (Some id) = are_same names wanted id

-- whether a test takes what has this kind and name
abbrev pub takes : List NameParts → Axis → NodeTest → Option Kind → Option NameId → Bool
takes names along test.AnyNode k name = true
takes names along test.AnyText k name = is_kind kind.Text k
takes names along test.AnyComment k name = is_kind kind.Comment k
takes names along test.AnyName k name = has_principal_kind along k
takes names along (test.Within uri) k name = has_principal_kind along k && is_in_namespace names uri name
takes names along (test.Named wanted) k name = has_principal_kind along k && is_named names wanted name

abbrev pub tested : List NameParts → Axis → NodeTest → Thing → Bool
tested names along test thing = takes names along test thing.kind thing.name

-- a name that a test asks for is in the table
abbrev pub HasTest : List NameParts → NodeTest → Type 0
HasTest names test.AnyNode = Unit {0}
HasTest names test.AnyText = Unit {0}
HasTest names test.AnyComment = Unit {0}
HasTest names test.AnyName = Unit {0}
HasTest names (test.Within uri) = Unit {0}
HasTest names (test.Named wanted) = HasName names (Some wanted)

-- the things of the entries that pass, in their order
abbrev pub pick : (Path → Thing → Bool) → List Entry → List NodeRef
pick passes [] = []
pick passes (e ∷ es) = if passes e.path e.thing then e.thing.ref ∷ pick passes es else pick passes es

abbrev pub in_order : Axis → List NodeRef → List NodeRef
in_order along found = if is_reverse along then reverse found else found

-- the nodes and attributes on an axis that a test takes, in axis order; none where there is no such node in the source
abbrev pub axis_of : List NameParts → Axis → NodeTest → Source → NodeRef → List NodeRef
axis_of names along test source from =
    elim (path_of source from) [ None ↦ [] | Some n ↦ in_order along (pick (λ m thing. meets along n m && tested names along test thing) (entries_of source)) ]

-- the texts below neighbours, joined in document order
abbrev pub own_characters : Body → List ℕ
own_characters Root = []
own_characters (Element name pairs) = []
own_characters (Text text) = text
own_characters (Comment text) = []

abbrev pub texts_in : Forest → List ℕ
texts_in none = []
texts_in (node n body kids rest) = own_characters body ++ texts_in kids ++ texts_in rest

abbrev pub node_string : Spot → List ℕ
node_string spot = elim spot.body [ Root ↦ texts_in spot.kids | Element name pairs ↦ texts_in spot.kids | Text text ↦ text | Comment text ↦ text ]

abbrev pub value_of : NameId → List AttrPair → List ℕ
value_of name [] = []
value_of name (pair ∷ pairs) = if pair.name.0 == name.0 then pair.value else value_of name pairs

-- the string-value of a node or attribute; empty where it is not in the source
abbrev pub string_of : Source → NodeRef → List ℕ
string_of source (ref.Node n) = elim (spot_of source n.0) [ None ↦ [] | Some spot ↦ node_string spot ]
string_of source (ref.Attr n name) = elim (spot_of source n.0) [ None ↦ [] | Some spot ↦ value_of name (pairs_of spot.body) ]
