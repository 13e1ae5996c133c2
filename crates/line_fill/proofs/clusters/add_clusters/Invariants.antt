use Rattle.std.proofs.Common.{◌≡◌, ◌+◌, ◌++◌, length}
use Rattle.std.specs.List.{concat}
use Rattle.std.proofs.Common.{encode_utf8_all}
use Rattle.line_fill.specs.Clusters.{clusters_from, clusters_in}
use Rattle.line_fill.proofs.clusters.add_clusters.Given as goal

-- the clusters so far, with those that are left, are the run's
abbrev pub invariant-loop-piece : goal.invariant-loop-piece
invariant-loop-piece l = record {
  clusters : l.clusters ++ clusters_from l.run.face.size l.start l.piece-iterator ≡ l.fn.clusters ++ clusters_in l.run;
  start : l.start + length (concat l.piece-iterator) ≡ length (encode_utf8_all l.run.text);
}
