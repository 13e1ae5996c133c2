-- What lines come to, in words that do not say how they are filled (this project's own).
use Rattle.std.specs.Prelude.{◌≡◌, ◌⊎◌, ℕ, ◌+◌, ◌≤◌, true, List, [], ◌∷◌, length, slice_range, encode_utf8_all}
use Rattle.std.specs.Str.{IsUtf8}
use Rattle.result_origin.specs.declared.pages.Run.{Run}
use Rattle.line_fill.specs.declared.clusters.Cluster.{Cluster}
use Rattle.line_fill.specs.declared.spans.Span.{Span}
use Rattle.line_fill.specs.Cuts.{used, fits, may_end}

-- so many of the clusters, one at least, fit
pub record DoFit (room : ℕ) (clusters : List Cluster) (count : ℕ) : Type 0 where
  pub some : 1 ≤ count
  pub within : count ≤ length clusters
  pub fitting : fits room clusters count ≡ true

-- they fit, and a line may end behind them
pub record AreWords (room : ℕ) (clusters : List Cluster) (count : ℕ) : Type 0 where
  pub do_fit : DoFit room clusters count
  pub ends : may_end clusters count ≡ true

-- a line has the width of its space at most, or one cluster
abbrev pub IsNarrow : (ℕ → ℕ) → List Cluster → Span → Type 0
IsNarrow room clusters span = (used (slice_range clusters span.from span.to) ≤ room span.from) ⊎ (span.to ≡ span.from + 1)

-- nothing hangs behind a line, or one space does
abbrev pub HangsASpace : List Cluster → Span → Type 0
HangsASpace clusters span = (slice_range clusters span.to span.next ≡ []) ⊎ ((cluster : Cluster) × (slice_range clusters span.to span.next ≡ cluster ∷ []) × (cluster.is_space ≡ true))

abbrev pub IsText : Run → Type 0
IsText run = IsUtf8 (encode_utf8_all run.text)
