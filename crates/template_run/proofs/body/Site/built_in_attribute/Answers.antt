use Rattle.template_run.proofs.LogLemmas.{own_attributes}
use Rattle.template_run.proofs.body.Site.built_in_attribute.Goals as goal

pub returns-in_err-value-clause-within : goal.returns-in_err-value-clause-within
returns-in_err-value-clause-within g c allowed cells = c.value_of.ensures.within allowed (own_attributes allowed c.args.node c.args.name cells)

pub returns-in_err-say_value-in-Some-clause-within : goal.returns-in_err-say_value-in-Some-clause-within
returns-in_err-say_value-in-Some-clause-within g c allowed cells = c.value_of.ensures.within allowed (own_attributes allowed c.args.node c.args.name cells)

pub returns-in_ok-say_value-in-Some-clause-within : goal.returns-in_ok-say_value-in-Some-clause-within
returns-in_ok-say_value-in-Some-clause-within g c allowed cells = c.value_of.ensures.within allowed (own_attributes allowed c.args.node c.args.name cells)

pub returns-in-None-clause-within : goal.returns-in-None-clause-within
returns-in-None-clause-within g c allowed cells = c.value_of.ensures.within allowed (own_attributes allowed c.args.node c.args.name cells)
