use Rattle.text_units.proofs.ClusterLemmas.{clusters-concat, All-clusters-nonempty}
use Rattle.text_units.proofs.laws.clusters_make_up_the_text.Goals as goal

pub returns-clause-joined : goal.returns-clause-joined
returns-clause-joined c = clusters-concat

pub returns-clause-not_empty : goal.returns-clause-not_empty
returns-clause-not_empty c = All-clusters-nonempty
