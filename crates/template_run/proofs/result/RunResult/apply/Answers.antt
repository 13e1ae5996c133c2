use Rattle.std.proofs.Common.{arith}
use Rattle.template_run.proofs.PassedLemmas.{apply_more}
use Rattle.template_run.proofs.result.RunResult.apply.Goals as goal

pub loop-before-preserved : goal.loop-before-preserved
loop-before-preserved c =
    apply_more c.args.mode c.args.nodes.now c.loop-before.before _ c.args.self.now c.loop-before.self c.ask.new.self c.apply-request.result (omega arith) c.apply-request.ensures
    c.loop-before.invariant c.in_ok-ask.ensures
