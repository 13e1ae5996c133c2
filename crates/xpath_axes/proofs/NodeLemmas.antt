-- What one cell of a node tells.
use Rattle.std.proofs.Common.{◌≡◌, ℕ, suc, ◌==◌, List, [], ◌∷◌, Option, Some, if◌then◌else◌, refl, ap, ◌∙◌, add-one}
use Rattle.std.specs.Str.{chars}
use Rattle.std.specs.List.{position, position_from}
use Rattle.std.proofs.lemmas.Str.{chars-nil}
use Rattle.std.proofs.lemmas.Iterator.Adapters.{position_from-zero}
use Rattle.serna_kinds.specs.declared.cells.NameId.{NameId}
use Rattle.serna_kinds.specs.declared.cells.AttrPair.{AttrPair}
use Rattle.source_model.specs.Attributes.{has_name}
use Rattle.source_model.specs.Paths.{attribute_place}

-- what is empty has no characters
pub no_characters : (text : List ℕ) → [] ≡ text → chars [] ≡ text
no_characters text e = chars-nil ∙ e

-- the place of an attribute as the place of the first that has its name
place_from : (name : NameId) (i : ℕ) (pairs : List AttrPair) → position_from (has_name name) i pairs ≡ attribute_place name i pairs
place_from name i [] = refl
place_from name i (pair ∷ pairs) =
    ap (λ (o : Option ℕ). if pair.name.0 == name.0 then Some i else o) (ap (λ (j : ℕ). position_from (has_name name) j pairs) (add-one i) ∙ place_from name (suc i) pairs)

pub place_is : (name : NameId) (pairs : List AttrPair) → position (has_name name) pairs ≡ attribute_place name 0 pairs
place_is name pairs = position_from-zero (has_name name) pairs ∙ place_from name 0 pairs
