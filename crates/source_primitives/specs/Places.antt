-- Places for a caret, and how a change moves them (this project's own).
use Rattle.std.specs.Prelude.{◌≡◌, ℕ, ◌+◌, ◌-◌, ◌≤◌, ◌==◌, nat_lt, Bool, IsTrue, List, [], ◌∷◌, filter_map, length, fold, Option, Some, None, is_some, encode_utf8_all, if◌then◌else◌}
use Rattle.std.specs.List.{flat_map}
use Rattle.std.specs.Option.{option_map, option_map_or, option_and_then}
use Rattle.serna_kinds.specs.Limits.{text_limit}
use Rattle.serna_kinds.specs.Texts.{IsPlaceIn}
use Rattle.serna_kinds.specs.declared.cells.NodeName.{NodeName}
use Rattle.source_model.specs.Source.{Root, Element, Comment, Forest, none, node, Source}
use Rattle.source_model.specs.Source as body
use Rattle.source_model.specs.Cells.{Spot, named, spot_of}
use Rattle.source_model.specs.Changes.{text_at}
use Rattle.source_model.specs.Proper.{BeginsNoText}
use Rattle.source_primitives.specs.declared.primitive.CaretPlace.{CaretPlace}
use Rattle.source_primitives.specs.declared.primitive.CaretPlace.TheVariants.{Text, Into}
use Rattle.source_primitives.specs.declared.primitive.Primitive.{Primitive}
use Rattle.source_primitives.specs.declared.primitive.Primitive.TheVariants.{InsertText, RemoveText, InsertChild, RemoveChild, SetAttr, RemoveAttr, PutAttr}
use Rattle.source_primitives.specs.declared.primitive.Begun.{Begun}
use Rattle.source_primitives.specs.declared.primitive.Moves.{Moves}
use Rattle.source_primitives.specs.Primitives.{IsElement}

-- the place is in the source: between two characters of a text node, or in an element that does not begin with one
abbrev pub IsPlaceOf : Source → CaretPlace → Type 0
IsPlaceOf source (Text number at) = (text : List ℕ) × (text_at source number.0 ≡ Some text) × IsPlaceIn text at
IsPlaceOf source (Into number) = (spot : Spot) × (spot_of source number.0 ≡ Some spot) × IsElement spot.body × BeginsNoText spot.kids

-- where a place in a text is after an insertion of so many bytes: one past the insertion's place grows, one at it stays
abbrev pub behind_insertion : ℕ → ℕ → ℕ → ℕ
behind_insertion from more at = if nat_lt from at then at + more else at

-- where it is after a removal: one within it becomes its start, and one past it falls
abbrev pub behind_removal : ℕ → ℕ → ℕ → ℕ
behind_removal from to at = if nat_lt to at then at - (to - from) else (if nat_lt from at then from else at)

-- where a prim moves a place: within its text, and the inside of an element not at all
abbrev pub carried : Primitive → CaretPlace → CaretPlace
carried (InsertText text from piece) (Text number at) =
    Text number (if number.0 == text.0 then behind_insertion from (length (encode_utf8_all piece)) at else at)
carried (InsertText text from piece) (Into number) = Into number
carried (RemoveText text from to) (Text number at) = Text number (if number.0 == text.0 then behind_removal from to at else at)
carried (RemoveText text from to) (Into number) = Into number
carried (InsertChild parent place items) (Text number at) = Text number at
carried (InsertChild parent place items) (Into number) = Into number
carried (RemoveChild parent place) (Text number at) = Text number at
carried (RemoveChild parent place) (Into number) = Into number
carried (SetAttr element name value) place = place
carried (RemoveAttr element name) place = place
carried (PutAttr element at name value) place = place

-- where it is after some prims, one after another
abbrev pub carried_through : List Primitive → CaretPlace → CaretPlace
carried_through prims place = fold (λ place prim. carried prim place) place prims

-- the text that neighbours begin with
abbrev pub first_text : Forest → Option NodeName
first_text none = None
first_text (node n Root kids rest) = None
first_text (node n (Element name attributes) kids rest) = None
first_text (node n (body.Text text) kids rest) = Some (named n)
first_text (node n (Comment text) kids rest) = None

-- the text that the children of a node begin with
abbrev pub text_at_start : Source → ℕ → Option NodeName
text_at_start source n = option_and_then (λ (spot : Spot). first_text spot.kids) (spot_of source n)

-- a place in what a change leaves: the inside of an element that begins with a text is the start of the text
abbrev pub settled : Source → CaretPlace → CaretPlace
settled source (Text number at) = Text number at
settled source (Into number) = option_map_or (λ text. Text text 0) (text_at_start source number.0) (Into number)

-- the nodes whose children a prim changes
abbrev pub parents_in : Primitive → List NodeName
parents_in (InsertText text from piece) = []
parents_in (RemoveText text from to) = []
parents_in (InsertChild parent place items) = parent ∷ []
parents_in (RemoveChild parent place) = parent ∷ []
parents_in (SetAttr element name value) = []
parents_in (RemoveAttr element name) = []
parents_in (PutAttr element place name value) = []

-- those of some elements that begin with a text in a source
abbrev pub begun_in : Source → List NodeName → List Begun
begun_in source elements = filter_map (λ (element : NodeName). option_map (λ text. record { element = element; text = text }) (text_at_start source element.0)) elements

-- how a change moves places: its prims, and the source that it leaves
abbrev pub moves_of : List Primitive → Source → Moves
moves_of prims left = record { prims = prims; begun = begun_in left (flat_map parents_in prims) }

-- the inside of an element that begins with a text since a change becomes the start of the text
abbrev pub inside_since : List Begun → NodeName → CaretPlace
inside_since [] number = Into number
inside_since (one ∷ begun) number = if number.0 == one.element.0 then Text one.text 0 else inside_since begun number

abbrev pub settled_by : List Begun → CaretPlace → CaretPlace
settled_by begun (Text number at) = Text number at
settled_by begun (Into number) = inside_since begun number

-- where a place is after a change: carried through its prims, and then settled
abbrev pub moved : Moves → CaretPlace → CaretPlace
moved moves place = settled_by moves.begun (carried_through moves.prims place)

-- where it is after some changes, one after another
abbrev pub moved_through : List Moves → CaretPlace → CaretPlace
moved_through since place = fold (λ place moves. moved moves place) place since

-- the node that a place is in
abbrev pub node_of : CaretPlace → NodeName
node_of (Text number at) = number
node_of (Into number) = number

-- a place is gone while its node is not in the source
abbrev pub is_there : Source → CaretPlace → Bool
is_there source place = is_some (spot_of source (node_of place).0)

-- a place within the most bytes of a text
abbrev pub IsNear : CaretPlace → Type 0
IsNear (Text number at) = at ≤ text_limit
IsNear (Into number) = Unit {0}

-- a place that was one of the source at some time: its node was made, and while that is in the source, the place is there
pub record Lasts (source : Source) (place : CaretPlace) : Type 0 where
  pub made : (node_of place).0 ≤ source.made
  pub near : IsNear place
  pub there : IsTrue (is_there source place) → IsPlaceOf source place
