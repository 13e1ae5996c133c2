-- Words on the places of a list, which are numbers. This project's own.
use Rattle.std.specs.Prelude.{ℕ, not, List, [], ◌∷◌, Option, Some, None, ◌==◌, if◌then◌else◌}
use Rattle.std.specs.List.{count_by, filter}

-- how often a place stands in a list
abbrev pub times : ℕ → List ℕ → ℕ
times p xs = count_by (λ x. x == p) xs

-- the list without a place, the order of the rest as it was
abbrev pub without : ℕ → List ℕ → List ℕ
without p xs = filter (λ x. not (x == p)) xs

-- the first place of a list; none in an empty one
abbrev pub first_of : List ℕ → Option ℕ
first_of [] = None
first_of (x ∷ xs) = Some x

-- the place right behind p; none where p stands last
abbrev pub place_after : ℕ → List ℕ → Option ℕ
place_after p [] = None
place_after p (x ∷ xs) = if x == p then first_of xs else place_after p xs

-- the list from the first p on
abbrev pub from_first : ℕ → List ℕ → List ℕ
from_first p [] = []
from_first p (x ∷ xs) = if x == p then x ∷ xs else from_first p xs
