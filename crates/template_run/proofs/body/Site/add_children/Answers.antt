use Rattle.std.proofs.Common.{subst, sym, ap, ◌∙◌, ◌++◌}
use Rattle.std.proofs.lemmas.Result.{on_ok_weaker}
use Rattle.serna_kinds.specs.Tape.{Within}
use Rattle.template_run.specs.Instances.{applied_in}
use Rattle.template_run.specs.Labels.{IsLabelIfKnown}
use Rattle.template_run.specs.Allowed.{own_cells}
use Rattle.template_run.proofs.body.Site.add_children.Goals as goal

pub returns-in-Node-clause-within : goal.returns-in-Node-clause-within
returns-in-Node-clause-within g c allowed cells = c.add_children_of.ensures.within allowed (subst (λ r. Within allowed (own_cells r)) c.in-Node.is cells)

pub returns-in-Node-clause-value : goal.returns-in-Node-clause-value
returns-in-Node-clause-value g c =
    on_ok_weaker c.add_children_of.result
    (λ added source agrees knows.
    added source agrees (subst (λ r. IsLabelIfKnown source r c.args.self.now.known) c.in-Node.is knows) ∙ ap (λ r. c.args.out.now ++ applied_in source c.args.mode r) (sym c.in-Node.is))
    c.add_children_of.ensures.value
