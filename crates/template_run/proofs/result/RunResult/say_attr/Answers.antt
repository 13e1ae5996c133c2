use Rattle.result_origin.specs.Parts as mark
use Rattle.template_run.proofs.AskingLemmas.{said_asks, said_is}
use Rattle.template_run.proofs.result.RunResult.say_attr.Goals as goal

pub invariant_of-self : goal.invariant_of-self
invariant_of-self c =
    said_asks c.push_attr.result c.self.inside.fragment c.push_attr.new.self c.self.inside.asked (mark.Attr c.args.name) c.self.invariant c.push_attr.ensures.ok c.push_attr.ensures.err

pub returns : goal.returns
returns c = said_is c.push_attr.result c.self.inside.fragment c.push_attr.new.self c.self.inside.asked (mark.Attr c.args.name) c.args.self.now c.self.invariant c.self.view_is c.push_attr.ensures.ok
