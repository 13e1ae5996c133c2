use Rattle.result_origin.specs.Parts as mark
use Rattle.template_run.proofs.AskingLemmas.{said_asks, said_is}
use Rattle.template_run.proofs.result.RunResult.say_finish.Goals as goal

pub invariant_of-self : goal.invariant_of-self
invariant_of-self c =
    said_asks c.push_finish.result c.self.inside.fragment c.push_finish.new.self c.self.inside.asked mark.Finish c.self.invariant c.push_finish.ensures.ok c.push_finish.ensures.err

pub returns : goal.returns
returns c = said_is c.push_finish.result c.self.inside.fragment c.push_finish.new.self c.self.inside.asked mark.Finish c.args.self.now c.self.invariant c.self.view_is c.push_finish.ensures.ok
