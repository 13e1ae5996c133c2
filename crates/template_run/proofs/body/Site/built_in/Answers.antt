use Rattle.std.proofs.Common.{subst, sym, ap, ◌∙◌}
use Rattle.std.proofs.lemmas.Result.{IfOk-weaker}
use Rattle.serna_kinds.specs.Tape.{Within}
use Rattle.template_run.specs.Instances.{built_in_of}
use Rattle.template_run.specs.Labels.{IsLabelIfKnown}
use Rattle.template_run.specs.Allowed.{own_cells}
use Rattle.template_run.proofs.body.Site.built_in.Goals as goal

pub returns-in-Node-clause-within : goal.returns-in-Node-clause-within
returns-in-Node-clause-within g c allowed cells = c.built_in_node.ensures.within allowed (subst (λ r. Within allowed (own_cells r)) c.in-Node.is cells)

pub returns-in-Attr-clause-within : goal.returns-in-Attr-clause-within
returns-in-Attr-clause-within g c allowed cells = c.built_in_attribute.ensures.within allowed (subst (λ r. Within allowed (own_cells r)) c.in-Attr.is cells)

pub returns-in-Node-clause-value : goal.returns-in-Node-clause-value
returns-in-Node-clause-value g c =
    IfOk-weaker c.built_in_node.result _ _
    (λ value gives source agrees knows.
    gives source agrees (subst (λ r. IsLabelIfKnown source r c.args.self.now.known) c.in-Node.is knows) ∙ ap (λ r. built_in_of source c.args.mode r) (sym c.in-Node.is))
    c.built_in_node.ensures.value
