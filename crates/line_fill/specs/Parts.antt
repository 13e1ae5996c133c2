-- The parts of runs in lines (this project's own). A run stands between two places among the paragraph's clusters.
use Rattle.std.specs.Prelude.{ℕ, ◌+◌, ◌-◌, ◌==◌, nat_le, nat_lt, ◌&&◌, ◌||◌, Bool, List, [], ◌∷◌, ◌++◌, length, if◌then◌else◌}
use Rattle.result_origin.specs.declared.pages.Run.{Run}
use Rattle.result_origin.specs.Pages.{PartValue}
use Rattle.line_fill.specs.declared.spans.Span.{Span}
use Rattle.line_fill.specs.Clusters.{clusters_in, place_behind}

-- a run with clusters has a part in each line that has one of them or its hanging space, and in the empty line behind that space
abbrev pub has_some : Span → ℕ → ℕ → Bool
has_some span low high = (nat_lt low span.next && nat_lt span.from high) || (span.from == span.next && span.from == high)

-- an empty run stands in the line of the last cluster before it, or in the first line
abbrev pub has_empty : Span → ℕ → Bool
has_empty span at = if at == 0 then span.from == 0 else nat_lt span.from at && nat_le at span.next

abbrev pub stands : Span → ℕ → ℕ → Bool
stands span low high = if low == high then has_empty span low else has_some span low high

-- what of a run the line shows
abbrev pub part_of : Span → ℕ → Run → PartValue
part_of span low run = record { run = run; start = place_behind run (span.from - low); finish = place_behind run (span.to - low) }

abbrev pub part_in : Span → ℕ → Run → List PartValue
part_in span low run = if stands span low (low + length (clusters_in run)) then part_of span low run ∷ [] else []

-- the parts of runs in a line, the first run beginning at that place
abbrev pub parts_from : Span → ℕ → List Run → List PartValue
parts_from span low [] = []
parts_from span low (run ∷ runs) = part_in span low run ++ parts_from span (low + length (clusters_in run)) runs
