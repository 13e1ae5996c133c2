-- One side of the store, its left or its right lists, as contracts see it. This project's own.
use Rattle.std.specs.Prelude.{◌≡◌, ◌≢◌, ℕ, ◌≤◌, Bool, false, List, [], ◌∷◌, ◌++◌, length, Option, Some, None, ◌==◌, if◌then◌else◌, slice_index_or}
use Rattle.index_lists.specs.Lists.{times, without}

-- the places of each list from first to last, and for each place the list in which it stands
pub record Side : Type 0 where
  pub lists : List (List ℕ)
  pub owners : List (Option ℕ)

-- the places of list l from first to last; none where there is no such list
abbrev pub list_at : Side → ℕ → List ℕ
list_at s l = slice_index_or s.lists l []

-- the list in which place p stands; none where it stands in no list
abbrev pub owner_at : Side → ℕ → Option ℕ
owner_at s p = slice_index_or s.owners p None

-- whether a place with this owner stands in list l
abbrev pub is_in : Option ℕ → ℕ → Bool
is_in None l = false
is_in (Some k) l = k == l

-- a place stands once in the list that owns it, and in no other
pub record IsSound (s : Side) : Type 0 where
  pub once : (l p : ℕ) → times p (list_at s l) ≡ (if is_in (owner_at s p) l then 1 else 0)

-- the new side is the old one with place p, which stood in no list, at the end of list l
pub record Appends (old new : Side) (l p : ℕ) : Type 0 where
  pub end : list_at new l ≡ list_at old l ++ p ∷ []
  pub other_lists : (k : ℕ) → k ≢ l → list_at new k ≡ list_at old k
  pub owner : owner_at new p ≡ Some l
  pub other_owners : (q : ℕ) → q ≢ p → owner_at new q ≡ owner_at old q
  pub place_count : length new.owners ≡ length old.owners
  pub list_count : length new.lists ≡ length old.lists

-- the new side is the old one with place p taken out of list l
pub record TakesOut (old new : Side) (l p : ℕ) : Type 0 where
  pub rest : list_at new l ≡ without p (list_at old l)
  pub other_lists : (k : ℕ) → k ≢ l → list_at new k ≡ list_at old k
  pub owner : owner_at new p ≡ None
  pub other_owners : (q : ℕ) → q ≢ p → owner_at new q ≡ owner_at old q
  pub place_count : length new.owners ≡ length old.owners
  pub list_count : length new.lists ≡ length old.lists

-- the new side is the old one, perhaps with more places that stand in no list and more empty lists
pub record Extends (old new : Side) : Type 0 where
  pub lists : (l : ℕ) → list_at new l ≡ list_at old l
  pub owners : (p : ℕ) → owner_at new p ≡ owner_at old p
  pub place_count : length old.owners ≤ length new.owners
  pub list_count : length old.lists ≤ length new.lists
