use Rattle.source_primitives.proofs.Typed.{may_apply}
use Rattle.source_primitives.proofs.laws.typing_may_be_applied.Goals as goal

pub returns : goal.returns
returns c = may_apply
