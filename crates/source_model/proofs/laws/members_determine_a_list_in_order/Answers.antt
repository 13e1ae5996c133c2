use Rattle.source_model.proofs.PathOrder.{same_refs}
use Rattle.source_model.proofs.laws.members_determine_a_list_in_order.Goals as goal

pub returns : goal.returns
returns c = same_refs
