-- Lists of places, each with a value or with none.
use Rattle.std.specs.Prelude.{ℕ, List, Option, None, unwrap_or, get_or}

-- what stands at a place; `nothing` where no value does
abbrev pub place_in : {X : Type 0} → X → List (Option X) → ℕ → X
place_in nothing places k = unwrap_or (get_or places k None) nothing
