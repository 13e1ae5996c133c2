use Rattle.std.proofs.Common.{refl}
use Rattle.template_run.specs.Batch.{batch, whole}
use Rattle.template_run.proofs.laws.worked_example.Goals as goal

pub returns : goal.returns
unfolding batch whole
returns c = refl
