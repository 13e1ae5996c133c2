-- The result that results with holes make together, where a hole's number names the result that fills it (this project's own).
use Rattle.std.specs.Prelude.{◌≡◌, ℕ, zero, suc, List, [], Option, Some, None}
use Rattle.std.specs.List.{AllByRecursion}
use Rattle.result_origin.specs.Parts.{Mark, ResultPart, Says, Hole, filled}

-- the result of a number with its holes filled, so many levels deep
unfoldable pub resolved : (ℕ → Option (List (ResultPart ℕ))) → ℕ → ℕ → List Mark
resolved kept zero id = []
resolved kept (suc left) id = elim (kept id) [ None ↦ [] | Some parts ↦ filled (resolved kept left) parts ]

abbrev pub HoleEnds : (ℕ → Type 0) → ResultPart ℕ → Type 0
HoleEnds EndsAt (Says mark) = Unit {0}
HoleEnds EndsAt (Hole id) = EndsAt id

-- the result of a number is there, and so is that of each hole in it, within so many levels
unfoldable pub Ends : (ℕ → Option (List (ResultPart ℕ))) → ℕ → ℕ → Type 0
Ends kept zero id = ⊥
Ends kept (suc left) id = (parts : List (ResultPart ℕ)) × (kept id ≡ Some parts) × AllByRecursion (HoleEnds (Ends kept left)) parts
