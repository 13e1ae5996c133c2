-- What was written is a front of these bytes, where the sink tells.
use Rattle.std.specs.Prelude.{◌≡◌, ℕ, List, ◌++◌, Option}
use Rattle.serna_outside.specs.Outside.{Appends}

abbrev pub AppendsFront : Option (List ℕ) → Option (List ℕ) → List ℕ → Type 0
AppendsFront before after bytes = (front : List ℕ) × (rest : List ℕ) × (bytes ≡ front ++ rest) × Appends before after front
