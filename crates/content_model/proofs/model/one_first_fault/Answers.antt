use Rattle.content_model.proofs.Faults.{one_fault}
use Rattle.content_model.proofs.model.one_first_fault.Goals as goal

pub returns : goal.returns
returns c = one_fault
