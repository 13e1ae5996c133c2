-- The names of a source, and when a table has them.
use Rattle.std.specs.Prelude.{List, [], ◌∷◌, ◌++◌, map, Option, Some, None, IsSome, slice_get}
use Rattle.std.specs.List.{AllByRecursion}
use Rattle.serna_kinds.specs.declared.cells.NameId.{NameId}
use Rattle.serna_kinds.specs.declared.cells.AttrPair.{AttrPair}
use Rattle.serna_kinds.specs.Names.{NameParts}
use Rattle.source_model.specs.Source.{Body, Root, Element, Text, Comment, Forest, none, node}

-- an element's name, and those of its attributes
abbrev pub own_names : Body → List NameId
own_names Root = []
own_names (Element name attributes) = name ∷ map (λ (pair : AttrPair). pair.name) attributes
own_names (Text text) = []
own_names (Comment text) = []

-- the names of neighbours and of all below them, in document order
abbrev pub names_in : Forest → List NameId
names_in none = []
names_in (node n body kids rest) = own_names body ++ (names_in kids ++ names_in rest)

-- each number is one of the table's
abbrev pub AreKnown : List NameParts → List NameId → Type 0
AreKnown names ids = AllByRecursion (λ (id : NameId). IsSome (slice_get names id.0)) ids

-- a name, where there is one, is in the table
abbrev pub HasName : List NameParts → Option NameId → Type 0
HasName names None = Unit {0}
HasName names (Some id) = IsSome (slice_get names id.0)
