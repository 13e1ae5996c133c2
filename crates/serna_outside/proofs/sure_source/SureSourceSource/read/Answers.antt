use Rattle.std.proofs.Common.{arith}
use Rattle.std.proofs.lemmas.Grind.{common_steps}
use Rattle.serna_outside.proofs.ReadLaws.{Reads-copied}
use Rattle.serna_outside.proofs.sure_source.SureSourceSource.read.Goals as goal

pub returns-clause-bytes : goal.returns-clause-bytes
returns-clause-bytes c = Reads-copied _ _ _ c.args.into.now c.copy_front-count.result _
    (grind (arith, common_steps)) (grind (arith, common_steps)) (λ e. grind (arith, common_steps)) (grind (arith, common_steps)) (grind (arith, common_steps)) (grind (arith, common_steps))
