use Rattle.std.proofs.Common.{Option, ◌++◌, ◌∙◌, sym, ap}
use Rattle.std.proofs.lemmas.Result.{on_ok_weaker}
use Rattle.serna_kinds.specs.declared.cells.Kind.{Kind}
use Rattle.serna_kinds.specs.declared.cells.NameId.{NameId}
use Rattle.source_model.specs.Cells.{cell_of, spot_of}
use Rattle.template_run.proofs.LogLemmas.{own_label}
use Rattle.template_run.proofs.SpotLemmas.{spot_there, applied_at}
use Rattle.template_run.proofs.body.Site.add_children_of.Goals as goal

pub returns-in_err-kind-clause-within : goal.returns-in_err-kind-clause-within
returns-in_err-kind-clause-within g c allowed cells = c.label.ensures.within allowed (own_label allowed c.args.node cells)

pub returns-in-None-clause-within : goal.returns-in-None-clause-within
returns-in-None-clause-within g c allowed cells = c.label.ensures.within allowed (own_label allowed c.args.node cells)

pub returns-in-Some-clause-before : goal.returns-in-Some-clause-before
returns-in-Some-clause-before g c other agrees = c.label.ensures.before other (c.add_kids.ensures.before other agrees)

pub returns-in-Some-clause-within : goal.returns-in-Some-clause-within
returns-in-Some-clause-within g c allowed cells old = c.add_kids.ensures.within allowed cells (c.label.ensures.within allowed (own_label allowed c.args.node cells) old)

pub returns-in-Some-clause-value : goal.returns-in-Some-clause-value
returns-in-Some-clause-value g c =
    on_ok_weaker c.add_kids.result
    (λ added source agrees knows.
    let there =
    spot_there (spot_of source c.args.node.0) (c.in-Some.kind, c.in-Some.field-0-1)
    (sym c.in-Some.is ∙ c.in_ok-kind.ensures.value source (c.add_kids.ensures.before (cell_of source) agrees) knows) in
    added source there.0 agrees there.1 (ap (λ (l : Kind × Option NameId). l.0) there.2)
    ∙ ap (λ ps. c.args.out.now ++ ps) (applied_at source c.args.mode c.args.node there.0 there.1))
    c.add_kids.ensures.value
