-- The boundaries nearest to a place, at which a caret may stop. This project's own words, over the boundaries of UAX 29.
use Rattle.std.specs.Prelude.{ℕ, ◌<◌, ◌≤◌, nat_lt, nat_le, List, reverse, length, find, Option, unwrap_or}
use Rattle.text_units.specs.Boundaries.{cluster_boundaries, IsBoundary}

-- the least boundary past `at`
pub record IsNextStop (text : List ℕ) (at stop : ℕ) : Type 0 where
  pub boundary : IsBoundary text stop
  pub past : at < stop
  pub least : (other : ℕ) → IsBoundary text other → at < other → stop ≤ other

-- the greatest boundary before `at`
pub record IsPrevStop (text : List ℕ) (at stop : ℕ) : Type 0 where
  pub boundary : IsBoundary text stop
  pub before : stop < at
  pub greatest : (other : ℕ) → IsBoundary text other → other < at → other ≤ stop

-- the least boundary that is not before `at`
pub record IsSnapped (text : List ℕ) (at stop : ℕ) : Type 0 where
  pub boundary : IsBoundary text stop
  pub not_before : at ≤ stop
  pub least : (other : ℕ) → IsBoundary text other → at ≤ other → stop ≤ other

-- ---- the same as functions, for definitions of other crates that need the place itself

-- the next stop, if there is one
unfoldable pub next_stop : List ℕ → ℕ → Option ℕ
next_stop text at = find (λ boundary. nat_lt at boundary) (cluster_boundaries text)

-- the stop before, if there is one
unfoldable pub prev_stop : List ℕ → ℕ → Option ℕ
prev_stop text at = find (λ boundary. nat_lt boundary at) (reverse (cluster_boundaries text))

-- the boundary that a place of the text is snapped to
unfoldable pub snap : List ℕ → ℕ → ℕ
snap text at = unwrap_or (find (λ boundary. nat_le at boundary) (cluster_boundaries text)) (length text)
