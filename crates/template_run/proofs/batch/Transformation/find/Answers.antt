use Rattle.template_run.proofs.LogLemmas.{present_node, present_attribute}
use Rattle.template_run.proofs.batch.Transformation.find.Goals as goal

pub returns-in_err-label-in-Node-clause-within : goal.returns-in_err-label-in-Node-clause-within
returns-in_err-label-in-Node-clause-within g c allowed cells = c.label_of.ensures.within allowed (present_node allowed c.args.node c.in-Node.number c.in-Node.is cells)

pub returns-in-Some-clause-within : goal.returns-in-Some-clause-within
returns-in-Some-clause-within g c allowed cells = c.label_of.ensures.within allowed (present_node allowed c.args.node c.in-Node.number c.in-Node.is cells)

pub returns-in-None-clause-within : goal.returns-in-None-clause-within
returns-in-None-clause-within g c allowed cells = c.label_of.ensures.within allowed (present_node allowed c.args.node c.in-Node.number c.in-Node.is cells)

pub returns-in_err-value_of-in-Attr-clause-within : goal.returns-in_err-value_of-in-Attr-clause-within
returns-in_err-value_of-in-Attr-clause-within g c allowed cells = c.value_of.ensures.within allowed (present_attribute allowed c.args.node c.in-Attr.number c.in-Attr.name c.in-Attr.is cells)

pub returns-in-Some-2-clause-within : goal.returns-in-Some-2-clause-within
returns-in-Some-2-clause-within g c allowed cells = c.value_of.ensures.within allowed (present_attribute allowed c.args.node c.in-Attr.number c.in-Attr.name c.in-Attr.is cells)

pub returns-in-None-2-clause-within : goal.returns-in-None-2-clause-within
returns-in-None-2-clause-within g c allowed cells = c.value_of.ensures.within allowed (present_attribute allowed c.args.node c.in-Attr.number c.in-Attr.name c.in-Attr.is cells)
