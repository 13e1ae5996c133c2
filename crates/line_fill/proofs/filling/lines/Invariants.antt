use Rattle.std.proofs.Common.{◌≡◌, ℕ, suc, ◌+◌, ◌-◌, ◌<◌, ◌≤◌, ◌++◌, map, length, get_or}
use Rattle.line_fill.specs.Clusters.{all_clusters}
use Rattle.line_fill.specs.Spans.{spans_from}
use Rattle.line_fill.specs.Lines.{room_at, line_of, lines_of}
use Rattle.line_fill.proofs.filling.lines.Given as goal

-- the lines so far, with those of the clusters that are left, are the paragraph's; the runs before the first one end before these
abbrev pub invariant-lines : goal.invariant-lines
invariant-lines l = record {
  within : l.from ≤ length l.table.clusters;
  first : l.first ≤ length l.para.runs;
  passed : (run : ℕ) → run < l.first → get_or l.table.edges (run + 1) 0 < l.from;
  lines : (count : ℕ) × (length l.table.clusters < l.from + count) × (l.lines ++ map (line_of l.para) (spans_from (room_at l.para) (all_clusters l.para.runs) count l.from) ≡ lines_of l.para);
}

abbrev pub decreases-lines : goal.decreases-lines
decreases-lines l = suc (length l.table.clusters) - l.from
