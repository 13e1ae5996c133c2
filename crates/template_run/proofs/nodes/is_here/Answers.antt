use Rattle.template_run.proofs.LogLemmas.{present_node, present_attribute}
use Rattle.template_run.proofs.nodes.is_here.Goals as goal

pub returns-in_err-label_of-in-Node-clause-within : goal.returns-in_err-label_of-in-Node-clause-within
returns-in_err-label_of-in-Node-clause-within g c allowed cells =
    c.label_of.ensures.within allowed (present_node allowed c.args.node c.in-Node.number c.in-Node.is cells)

pub returns-in_err-value_of-in-Attr-clause-within : goal.returns-in_err-value_of-in-Attr-clause-within
returns-in_err-value_of-in-Attr-clause-within g c allowed cells =
    c.value_of.ensures.within allowed (present_attribute allowed c.args.node c.in-Attr.number c.in-Attr.name c.in-Attr.is cells)

pub returns-in_ok-label_of-in-Node-clause-within : goal.returns-in_ok-label_of-in-Node-clause-within
returns-in_ok-label_of-in-Node-clause-within g c allowed cells =
    c.label_of.ensures.within allowed (present_node allowed c.args.node c.in-Node.number c.in-Node.is cells)

pub returns-in_ok-value_of-in-Attr-clause-within : goal.returns-in_ok-value_of-in-Attr-clause-within
returns-in_ok-value_of-in-Attr-clause-within g c allowed cells =
    c.value_of.ensures.within allowed (present_attribute allowed c.args.node c.in-Attr.number c.in-Attr.name c.in-Attr.is cells)
