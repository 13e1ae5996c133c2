use Rattle.dependency_log.proofs.LawLemmas.{each_once-same, each_once-distinct}
use Rattle.dependency_log.proofs.laws.a_cell_named_twice_is_one.Goals as goal

pub returns-clause-same : goal.returns-clause-same
returns-clause-same c = each_once-same

pub returns-clause-distinct : goal.returns-clause-distinct
returns-clause-distinct c = each_once-distinct
