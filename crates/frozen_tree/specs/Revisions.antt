-- What clauses see of maps that are kept under numbers.
use Rattle.std.specs.Prelude.{◌≡◌, ℕ, List, Some, slice_get, option_map}
use Rattle.boxcar.specs.Slot.{Named}
use Rattle.frozen_tree.specs.Frozen.{FrozenValue}

-- a map that is kept: the number of its revision, the map, and where it stands: the row, and the name of the slot that holds the row
pub record KeptMap : Type 0 where
  pub revision : ℕ
  pub source : FrozenValue
  pub row : ℕ
  pub name : ℕ

-- the slot at a place has that name
abbrev pub IsSlotAt : List Named → ℕ → ℕ → Type 0
IsSlotAt slots place name = option_map (λ (s : Named). s.id) (slice_get slots place) ≡ Some name

-- it is kept in these revisions
abbrev pub IsKeptIn : List Named → KeptMap → Type 0
IsKeptIn revisions kept = IsSlotAt revisions kept.row kept.name
