use Rattle.revision_lock.proofs.Selection.{filter-merged}
use Rattle.revision_lock.proofs.laws.a_kind_in_a_join.Goals as goal

pub returns : goal.returns
returns g c = λ kind own other none. filter-merged kind own other none
