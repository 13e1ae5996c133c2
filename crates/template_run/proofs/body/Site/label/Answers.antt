use Rattle.template_run.proofs.SpotLemmas.{label_there}
use Rattle.template_run.proofs.body.Site.label.Goals as goal

pub returns-in-Some-clause-value : goal.returns-in-Some-clause-value
returns-in-Some-clause-value g c source agrees knows = label_there source c.args.node c.args.self.now.known c.in-Some.label c.in-Some.is knows
