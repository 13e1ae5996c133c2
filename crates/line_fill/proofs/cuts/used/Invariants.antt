use Rattle.std.proofs.Common.{◌≡◌, take}
use Rattle.line_fill.specs.Cuts.{used}
use Rattle.line_fill.proofs.cuts.used.Given as goal

-- the width of the clusters so far
abbrev pub invariant-loop-cluster : goal.invariant-loop-cluster
invariant-loop-cluster l = l.width ≡ used (take l.cluster-index l.clusters)
