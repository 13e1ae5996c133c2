-- The attributes of an element as a list of pairs, each found by the number of its name (XPath 1.0, section 5.3).
use Rattle.std.specs.Prelude.{◌≡◌, ℕ, suc, ◌==◌, Bool, false, List, [], ◌∷◌, Option, Some, None, if◌then◌else◌}
use Rattle.std.specs.List.{AllByRecursion}
use Rattle.serna_kinds.specs.declared.cells.NameId.{NameId}
use Rattle.serna_kinds.specs.declared.cells.AttrPair.{AttrPair}
use Rattle.source_model.specs.Source.{Body, Root, Element, Text, Comment}

-- the attributes of an element; a node of another kind has none
abbrev pub pairs_of : Body → List AttrPair
pairs_of Root = []
pairs_of (Element name pairs) = pairs
pairs_of (Text text) = []
pairs_of (Comment text) = []

-- an attribute has the name of a number
abbrev pub has_name : NameId → AttrPair → Bool
has_name name pair = pair.name.0 == name.0

abbrev pub pair_of : NameId → List ℕ → AttrPair
pair_of name value = record { name = name; value = value }

-- the value of the attribute of a name; None where there is none
abbrev pub value_among : NameId → List AttrPair → Option (List ℕ)
value_among name [] = None
value_among name (pair ∷ pairs) = if has_name name pair then Some pair.value else value_among name pairs

-- the place of the attribute of a name; behind the last one where there is none
abbrev pub place_among : NameId → List AttrPair → ℕ
place_among name [] = 0
place_among name (pair ∷ pairs) = if has_name name pair then 0 else suc (place_among name pairs)

-- the attributes with a value for a name: in place of the old one, or behind the last attribute where there is none
abbrev pub with_value : NameId → List ℕ → List AttrPair → List AttrPair
with_value name value [] = pair_of name value ∷ []
with_value name value (pair ∷ pairs) = if has_name name pair then pair_of pair.name value ∷ pairs else pair ∷ with_value name value pairs

-- the attributes without the one of a name
abbrev pub without_name : NameId → List AttrPair → List AttrPair
without_name name [] = []
without_name name (pair ∷ pairs) = if has_name name pair then pairs else pair ∷ without_name name pairs

-- no two attributes have the same number as name
abbrev pub DifferByNumber : List AttrPair → Type 0
DifferByNumber [] = Unit {0}
DifferByNumber (pair ∷ pairs) = AllByRecursion (λ (other : AttrPair). has_name pair.name other ≡ false) pairs × DifferByNumber pairs
