-- Results of which each hole has a result, level by level.
use Rattle.std.proofs.Common.{◌≡◌, ℕ, suc, List, [], ◌∷◌, Option, Some}
use Rattle.std.specs.List.{AllByRecursion}
use Rattle.result_origin.specs.Parts.{ResultPart, Says, Hole, holes}
use Rattle.result_origin.specs.Assembled.{HoleEnds, Ends}

pub all_from_holes : (P : ℕ → Type 0) (parts : List (ResultPart ℕ)) → AllByRecursion P (holes parts) → AllByRecursion (HoleEnds P) parts
all_from_holes P [] all = tt
all_from_holes P (Says mark ∷ parts) all = (tt, all_from_holes P parts all)
all_from_holes P (Hole id ∷ parts) all = (all.0, all_from_holes P parts all.1)

-- a result ends where those of its holes end a level earlier
pub ends_from_holes : (kept : ℕ → Option (List (ResultPart ℕ))) (left id : ℕ) (parts : List (ResultPart ℕ)) → kept id ≡ Some parts → AllByRecursion (Ends kept left) (holes parts) →
    Ends kept (suc left) id
unfolding Ends
ends_from_holes kept left id parts there all = (parts, there, all_from_holes (Ends kept left) parts all)
