-- Where a line ends (XSL 1.1, 4.7.2, leaves that to the formatter; the choice is this project's own). A line takes the longest prefix of
-- the clusters that are left which fits and ends at the paragraph's end or before a space, else the longest which fits, else one cluster.
use Rattle.std.specs.Prelude.{ℕ, zero, suc, min, max, nat_le, nat_lt, ◌&&◌, Bool, true, false, List, [], ◌∷◌, length, take, drop, if◌then◌else◌}
use Rattle.std.specs.List.{sum_by}
use Rattle.line_fill.specs.declared.clusters.Cluster.{Cluster}
use Rattle.line_fill.specs.declared.cuts.Cut.{Cut}
use Rattle.line_fill.specs.Sums.{most}

-- the greatest number from 1 to a bound that passes, or 0
abbrev pub greatest : (ℕ → Bool) → ℕ → ℕ
greatest passes zero = 0
greatest passes (suc n) = if passes (suc n) then suc n else greatest passes n

-- what clusters take of a line
abbrev pub used : List Cluster → ℕ
used clusters = min (sum_by (λ cluster. cluster.width) clusters) most

-- the first clusters fit
abbrev pub fits : ℕ → List Cluster → ℕ → Bool
fits room clusters count = nat_le (used (take count clusters)) room

-- a line may end at the paragraph's end, or before a space
abbrev pub ends_before : List Cluster → Bool
ends_before [] = true
ends_before (cluster ∷ more) = cluster.is_space

abbrev pub may_end : List Cluster → ℕ → Bool
may_end clusters count = ends_before (drop count clusters)

-- the longest prefix that fits and may end there; the longest that fits
abbrev pub by_words : ℕ → List Cluster → ℕ
by_words room clusters = greatest (λ count. may_end clusters count && fits room clusters count) (length clusters)

abbrev pub by_clusters : ℕ → List Cluster → ℕ
by_clusters room clusters = greatest (fits room clusters) (length clusters)

-- the line that begins clusters: how many it shows, and whether a space hangs behind them
abbrev pub cut_at : ℕ → ℕ → ℕ → Cut
cut_at zero clusters all = record { taken = min (max clusters 1) all; hangs = false }
cut_at (suc words) clusters all = record { taken = suc words; hangs = nat_lt (suc words) all }

abbrev pub cut_of : ℕ → List Cluster → Cut
cut_of room clusters = cut_at (by_words room clusters) (by_clusters room clusters) (length clusters)
