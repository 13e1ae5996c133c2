use Rattle.std.proofs.Common.{◌≡◌, ℕ, ◌+◌, ◌≤◌, length, take, get_or}
use Rattle.line_fill.specs.Clusters.{all_clusters, edge}
use Rattle.line_fill.proofs.clusters.table_of.Given as goal

-- the clusters and edges of the runs so far
abbrev pub invariant-loop-run : goal.invariant-loop-run
invariant-loop-run l = record {
  clusters : l.clusters ≡ all_clusters (take l.run-index l.runs);
  all : length l.edges ≡ l.run-index + 1;
  each : (run : ℕ) → run ≤ l.run-index → get_or l.edges run 0 ≡ edge l.runs run;
}
