use Rattle.source_primitives.proofs.ConsistentKept.{consistent_kept}
use Rattle.source_primitives.proofs.UndoneAll.{consistent_all}
use Rattle.source_primitives.proofs.laws.a_source_stays_consistent.Goals as goal

pub returns : goal.returns
returns c = record {
  one = consistent_kept;
  all = consistent_all;
}
