use Rattle.text_units.proofs.ClusterLemmas.{cluster-next_stop, cluster-prev_stop}
use Rattle.text_units.proofs.laws.a_step_passes_one_cluster.Goals as goal

pub returns-clause-next : goal.returns-clause-next
returns-clause-next c = cluster-next_stop

pub returns-clause-prev : goal.returns-clause-prev
returns-clause-prev c = cluster-prev_stop
