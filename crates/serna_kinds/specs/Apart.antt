-- When the attributes of an element are apart (Namespaces in XML 1.0, section 6.3).
use Rattle.std.specs.Prelude.{◌≡◌, false, List, [], ◌∷◌, IsSome, slice_get}
use Rattle.std.specs.List.{AllByRecursion}
use Rattle.serna_kinds.specs.declared.cells.AttrPair.{AttrPair}
use Rattle.serna_kinds.specs.Names.{NameParts, are_same}

-- the names are the table's, and no two of them have the same URI and local name
abbrev pub AreApart : List NameParts → List AttrPair → Type 0
AreApart names [] = Unit {0}
AreApart names (pair ∷ pairs) =
    IsSome (slice_get names pair.name.0) × AllByRecursion (λ (other : AttrPair). are_same names pair.name other.name ≡ false) pairs × AreApart names pairs
