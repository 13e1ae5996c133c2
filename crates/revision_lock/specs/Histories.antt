-- Lists of entries that are numbered from 0, and parts of them. All of it is this project's own.
use Rattle.std.specs.Prelude.{◌≡◌, ◌⊎◌, ℕ, suc, ◌≤◌, List, [], ◌∷◌, length, if◌then◌else◌, nat_lt, nat_eq}

module _ {E : Type 0} where
  -- the entries, each with its place, where the first one's place is k
  abbrev pub numbered_from : ℕ → List E → List (ℕ × E)
  numbered_from k [] = []
  numbered_from k (x ∷ xs) = (k, x) ∷ numbered_from (suc k) xs

  -- the entries, each with its place
  abbrev pub numbered : List E → List (ℕ × E)
  numbered xs = numbered_from 0 xs

  -- each entry has a later place than the one before it, and the first one's place is k or later
  abbrev pub IsInOrderFrom : ℕ → List (ℕ × E) → Type 0
  IsInOrderFrom k [] = Unit {0}
  IsInOrderFrom k (x ∷ xs) = (k ≤ x.0) × IsInOrderFrom (suc x.0) xs

  -- each entry has a later place than the one before it, so no place stands twice
  abbrev pub IsInOrder : List (ℕ × E) → Type 0
  IsInOrder xs = IsInOrderFrom 0 xs

  -- an entry at this place is among them
  abbrev pub HasPlace : ℕ → List (ℕ × E) → Type 0
  HasPlace place [] = ⊥
  HasPlace place (x ∷ xs) = (place ≡ x.0) ⊎ HasPlace place xs

  -- no place stands in both lists
  abbrev pub AreApart : List (ℕ × E) → List (ℕ × E) → Type 0
  AreApart xs ys = (place : ℕ) → HasPlace place xs → HasPlace place ys → ⊥

  -- those of the entries whose place belongs to `me`, where the first one's place is k
  abbrev pub owned_from : (ℕ → ℕ) → ℕ → ℕ → List E → List (ℕ × E)
  owned_from owner me k [] = []
  owned_from owner me k (x ∷ xs) = if nat_eq (owner k) me then (k, x) ∷ owned_from owner me (suc k) xs else owned_from owner me (suc k) xs

  -- those of the entries whose place belongs to `me`
  abbrev pub owned : (ℕ → ℕ) → ℕ → List E → List (ℕ × E)
  owned owner me log = owned_from owner me 0 log

  -- the entry, put in front of the first one that has a later place
  abbrev pub put_in : ℕ × E → List (ℕ × E) → List (ℕ × E)
  put_in x [] = x ∷ []
  put_in x (y ∷ ys) = if nat_lt x.0 y.0 then x ∷ (y ∷ ys) else y ∷ put_in x ys

  -- the entries of both lists, in the order of their places
  abbrev pub merged : List (ℕ × E) → List (ℕ × E) → List (ℕ × E)
  merged xs [] = xs
  merged xs (y ∷ ys) = put_in y (merged xs ys)

  -- the longer of two lists, and the first of two that are of one length
  abbrev pub longer : List E → List E → List E
  longer xs ys = if nat_lt (length xs) (length ys) then ys else xs

  -- the other one of the two
  abbrev pub shorter : List E → List E → List E
  shorter xs ys = if nat_lt (length xs) (length ys) then xs else ys
