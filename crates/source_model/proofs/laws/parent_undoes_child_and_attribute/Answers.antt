use Rattle.source_model.proofs.Parents.{parent_back, one_parent}
use Rattle.source_model.proofs.laws.parent_undoes_child_and_attribute.Goals as goal

pub returns : goal.returns
returns c = record { back = parent_back; one = one_parent }
