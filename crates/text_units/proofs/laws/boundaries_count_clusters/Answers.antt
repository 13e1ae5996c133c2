use Rattle.text_units.proofs.ClusterLemmas.{length-cluster_boundaries, cluster_boundaries-at}
use Rattle.text_units.proofs.laws.boundaries_count_clusters.Goals as goal

pub returns-clause-number : goal.returns-clause-number
returns-clause-number c = length-cluster_boundaries

pub returns-clause-behind : goal.returns-clause-behind
returns-clause-behind c = λ text count. cluster_boundaries-at text count 0
