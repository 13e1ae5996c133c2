-- What holds of the arena of a store. Only this crate's own code speaks of it.
use Rattle.std.specs.Prelude.{◌≡◌, ℕ, ◌≤◌, length, true, is_some}
use Rattle.index_lists.specs.Pool.{Pooled, IsTaken, IsPool}
use Rattle.index_lists.specs.Side.{Side, owner_at, IsSound}

-- the two sides, and the places, free and taken
pub record IsArena (left right : Side) (places : Pooled) : Type 0 where
  pub left_sound : IsSound left
  pub right_sound : IsSound right
  pub pool : IsPool places
  -- a place is linked on both sides or on none
  pub paired : (p : ℕ) → is_some (owner_at left p) ≡ is_some (owner_at right p)
  -- a linked place is taken
  pub taken : (p : ℕ) → is_some (owner_at right p) ≡ true → IsTaken places p
  -- there is a link for each place on both sides
  pub left_count : places.count ≤ length left.owners
  pub right_count : places.count ≤ length right.owners
