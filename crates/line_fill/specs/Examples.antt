-- Words for worked examples: clusters of one unit, and lines.
use Rattle.std.specs.Prelude.{ℕ, ◌==◌, true, false, if◌then◌else◌}
use Rattle.line_fill.specs.declared.clusters.Cluster.{Cluster}
use Rattle.line_fill.specs.declared.spans.Span.{Span}

abbrev pub letter : Cluster
letter = record { start = 0; width = 1; is_space = false }

abbrev pub blank : Cluster
blank = record { start = 0; width = 1; is_space = true }

abbrev pub wide : Cluster
wide = record { start = 0; width = 2; is_space = false }

abbrev pub span : ℕ → ℕ → ℕ → Span
span from to next = record { from = from; to = to; next = next }

-- the same space for each line; another for the first
abbrev pub room : ℕ → ℕ → ℕ
room units from = units

abbrev pub first_room : ℕ → ℕ → ℕ → ℕ
first_room first units from = if from == 0 then first else units
