-- The lines of a paragraph as spans of its clusters (this project's own). What hangs behind a line is in no span; what follows begins
-- behind it.
use Rattle.std.specs.Prelude.{ℕ, zero, suc, ◌+◌, nat_lt, ◌||◌, Bool, List, [], ◌∷◌, length, drop, if◌then◌else◌}
use Rattle.line_fill.specs.declared.clusters.Cluster.{Cluster}
use Rattle.line_fill.specs.declared.cuts.Cut.{Cut}
use Rattle.line_fill.specs.declared.spans.Span.{Span}
use Rattle.line_fill.specs.Cuts.{cut_of}

-- a line that begins at a cluster
abbrev pub span_of : ℕ → Cut → Span
span_of from cut = record { from = from; to = from + cut.taken; next = from + cut.taken + (if cut.hangs then 1 else 0) }

-- another line follows where clusters are left, and behind a hanging space, where they may be none
abbrev pub goes_on : ℕ → Span → Bool
goes_on all span = nat_lt span.to span.next || nat_lt span.next all

abbrev pub span_at : (ℕ → ℕ) → List Cluster → ℕ → Span
span_at room clusters from = span_of from (cut_of (room from) (drop from clusters))

-- so many lines at most, from a cluster on
abbrev pub spans_from : (ℕ → ℕ) → List Cluster → ℕ → ℕ → List Span
spans_from room clusters zero from = []
spans_from room clusters (suc count) from =
    span_at room clusters from
    ∷ (if goes_on (length clusters) (span_at room clusters from) then spans_from room clusters count (span_at room clusters from).next else [])

-- the lines of clusters, the space for a line being that of the cluster with which it begins; there are never more lines than clusters
-- but for an empty one
abbrev pub spans_of : (ℕ → ℕ) → List Cluster → List Span
spans_of room clusters = spans_from room clusters (suc (length clusters)) 0
