use Rattle.dependency_log.proofs.LawLemmas.{told_by_last}
use Rattle.dependency_log.proofs.laws.the_last_put_tells.Goals as goal

pub returns : goal.returns
returns c = told_by_last
