-- What stands before a place in a text and what stands behind it, and how a prim carries the place with them (this project's own).
use Rattle.std.specs.Prelude.{◌≡◌, ℕ, List, ◌++◌, length, Some, encode_utf8_all}
use Rattle.serna_kinds.specs.declared.cells.NodeName.{NodeName}
use Rattle.source_model.specs.Source.{Source}
use Rattle.source_model.specs.Changes.{text_at}
use Rattle.source_primitives.specs.declared.primitive.CaretPlace.{CaretPlace}
use Rattle.source_primitives.specs.declared.primitive.CaretPlace.TheVariants.{Text, Into}
use Rattle.source_primitives.specs.declared.primitive.Primitive.{Primitive}
use Rattle.source_primitives.specs.declared.primitive.Primitive.TheVariants.{InsertText, RemoveText, InsertChild, RemoveChild, SetAttr, RemoveAttr, PutAttr}
use Rattle.source_primitives.specs.Primitives.{applied}
use Rattle.source_primitives.specs.Places.{carried}

-- the place is in a text of the source, behind these characters of it and in front of those
abbrev pub StandsBetween : Source → CaretPlace → List ℕ → List ℕ → Type 0
StandsBetween source (Text number at) before behind = (text_at source number.0 ≡ Some (before ++ behind)) × (length (encode_utf8_all before) ≡ at)
StandsBetween source (Into number) before behind = ⊥

-- in what a prim leaves, the carried place stands behind these characters and in front of those
abbrev pub CarriesBetween : Primitive → Source → CaretPlace → List ℕ → List ℕ → Type 0
CarriesBetween prim source place before behind = StandsBetween (applied prim source) (carried prim place) before behind

-- a prim changes another text than that of this number, or children, or attributes
abbrev pub IsElsewhere : Primitive → NodeName → Type 0
IsElsewhere (InsertText text from piece) number = number.0 ≡ text.0 → ⊥
IsElsewhere (RemoveText text from to) number = number.0 ≡ text.0 → ⊥
IsElsewhere (InsertChild parent place items) number = Unit {0}
IsElsewhere (RemoveChild parent place) number = Unit {0}
IsElsewhere (SetAttr element name value) number = Unit {0}
IsElsewhere (RemoveAttr element name) number = Unit {0}
IsElsewhere (PutAttr element place name value) number = Unit {0}
