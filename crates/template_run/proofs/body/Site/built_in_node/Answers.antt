use Rattle.std.proofs.Common.{Option, ◌++◌, ◌∙◌, sym, ap}
use Rattle.serna_kinds.specs.declared.cells.Kind.{Kind}
use Rattle.serna_kinds.specs.declared.cells.NameId.{NameId}
use Rattle.template_run.specs.Instances.{built_in_parts}
use Rattle.source_model.specs.Cells.{cell_of, spot_of}
use Rattle.template_run.proofs.LogLemmas.{own_label}
use Rattle.template_run.proofs.SpotLemmas.{spot_there, built_in_at}
use Rattle.template_run.proofs.body.Site.built_in_node.Goals as goal

pub returns-in_err-kind-clause-within : goal.returns-in_err-kind-clause-within
returns-in_err-kind-clause-within g c allowed cells = c.label.ensures.within allowed (own_label allowed c.args.node cells)

pub returns-in-None-clause-within : goal.returns-in-None-clause-within
returns-in-None-clause-within g c allowed cells = c.label.ensures.within allowed (own_label allowed c.args.node cells)

pub returns-in_err-add_built_in-in-Some-clause-before : goal.returns-in_err-add_built_in-in-Some-clause-before
returns-in_err-add_built_in-in-Some-clause-before g c other agrees = c.label.ensures.before other (c.add_built_in.ensures.before other agrees)

pub returns-in_err-add_built_in-in-Some-clause-within : goal.returns-in_err-add_built_in-in-Some-clause-within
returns-in_err-add_built_in-in-Some-clause-within g c allowed cells old =
    c.add_built_in.ensures.within allowed cells (c.label.ensures.within allowed (own_label allowed c.args.node cells) old)

pub returns-in_ok-add_built_in-in-Some-clause-before : goal.returns-in_ok-add_built_in-in-Some-clause-before
returns-in_ok-add_built_in-in-Some-clause-before g c other agrees = c.label.ensures.before other (c.add_built_in.ensures.before other agrees)

pub returns-in_ok-add_built_in-in-Some-clause-within : goal.returns-in_ok-add_built_in-in-Some-clause-within
returns-in_ok-add_built_in-in-Some-clause-within g c allowed cells old =
    c.add_built_in.ensures.within allowed cells (c.label.ensures.within allowed (own_label allowed c.args.node cells) old)

pub returns-in_ok-add_built_in-in-Some-clause-value : goal.returns-in_ok-add_built_in-in-Some-clause-value
returns-in_ok-add_built_in-in-Some-clause-value g c source agrees knows =
    let there =
    spot_there (spot_of source c.args.node.0) (c.in-Some.kind, c.in-Some.field-0-1)
    (sym c.in-Some.is ∙ c.in_ok-kind.ensures.value source (c.add_built_in.ensures.before (cell_of source) agrees) knows) in
    c.in_ok-add_built_in-in-Some.ensures.value source there.0 agrees there.1 (ap (λ (l : Kind × Option NameId). l.0) there.2)
    ∙ ap (λ ps. ps ++ built_in_parts c.args.mode c.args.node there.0 there.0.body) c.new-result.ensures
    ∙ built_in_at source c.args.mode c.args.node there.0 there.1
