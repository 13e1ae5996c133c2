-- Numbers that are free or taken, as contracts see them. This project's own.
use Rattle.std.specs.Prelude.{◌≡◌, ℕ, ◌+◌, ◌<◌, ◌≤◌, List, [], ◌∷◌, ◌++◌, length}
use Rattle.index_lists.specs.Lists.{times}

-- the free numbers, and how many numbers there are: the numbers are those below
pub record Pooled : Type 0 where
  pub free : List ℕ
  pub count : ℕ

-- how many numbers are free
abbrev pub spare_of : Pooled → ℕ
spare_of p = length p.free

-- a number can be given out
abbrev pub IsFree : Pooled → ℕ → Type 0
IsFree p n = 1 ≤ times n p.free

-- a number was given out and not taken back since
abbrev pub IsTaken : Pooled → ℕ → Type 0
IsTaken p n = (n < p.count) × (times n p.free ≡ 0)

-- what holds of every pool: a number is free once at most, and only numbers are free
pub record IsPool (p : Pooled) : Type 0 where
  pub once : (n : ℕ) → times n p.free ≤ 1
  pub within : (n : ℕ) → IsFree p n → n < p.count

-- the pool with one number more, which is free
abbrev pub one_more : Pooled → Pooled
one_more p = record { free = p.free ++ p.count ∷ []; count = p.count + 1 }

-- the old numbers are as free as they were, and the new ones, which follow them, are free
pub record IsGrown (old new : Pooled) : Type 0 where
  pub kept : (n : ℕ) → n < old.count → times n new.free ≡ times n old.free
  pub fresh : (n : ℕ) → old.count ≤ n → n < new.count → IsFree new n
  pub more : old.count ≤ new.count
  pub spare : new.count + spare_of old ≡ old.count + spare_of new
