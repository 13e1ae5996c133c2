-- The numbers of written names (this project's own).
use Rattle.std.specs.Prelude.{◌≡◌, ℕ, ◌+◌, List, [], ◌∷◌, ◌++◌, Option, Some, None, if◌then◌else◌, is_some, unwrap_or}
use Rattle.std.specs.Str.{bytes_eq}

-- the number of a name in a table, whose names have the numbers from n on
abbrev pub symbol_from : ℕ → List (List ℕ) → List ℕ → Option ℕ
symbol_from n [] written = None
symbol_from n (name ∷ names) written = if bytes_eq written name then Some n else symbol_from (n + 1) names written

-- the number of a name in a table of names, from 1
abbrev pub symbol_in : List (List ℕ) → List ℕ → Option ℕ
symbol_in names written = symbol_from 1 names written

-- the number of a name, 0 where the table lacks it
abbrev pub number_in : List (List ℕ) → List ℕ → ℕ
number_in names written = unwrap_or (symbol_in names written) 0

-- the table with a name: the same where it has the name, else with the name at its end
abbrev pub with_name : List (List ℕ) → List ℕ → List (List ℕ)
with_name names written = if is_some (symbol_in names written) then names else names ++ written ∷ []

-- the new table is the old one, and maybe more names behind it
abbrev pub Grows : List (List ℕ) → List (List ℕ) → Type 0
Grows old new = (more : List (List ℕ)) × (new ≡ old ++ more)
