use Rattle.std.proofs.Common.{◌++◌, List, true, false, sym, ap, ◌∙◌}
use Rattle.std.proofs.lemmas.List.{append-nil}
use Rattle.serna_kinds.specs.declared.cells.NodeRef.{NodeRef}
use Rattle.xpath_axes.proofs.TakenLemmas.{taken_one}
use Rattle.xpath_axes.proofs.taken.add_taken.Goals as goal

pub returns-in_ok-push-in-Some-clause-value : goal.returns-in_ok-push-in-Some-clause-value
returns-in_ok-push-in-Some-clause-value g c table source sees has =
    c.in_ok-push-in-Some.ensures.ok
    ∙ ap (λ (l : List NodeRef). c.args.out.now ++ l)
    (sym (taken_one c.args.names.now c.label_of.new.tape.cells (g.V.SourceView.cells c.args.view.now) table source c.args.along c.args.test.now c.args.node c.in-Some.kind c.in-Some.name true sees has
    (λ s agrees. sym c.in-Some.is ∙ c.in_ok-kind.ensures.value s agrees) (sym c.if-takes.true ∙ c.takes.ensures)))

pub returns-else-takes-clause-value : goal.returns-else-takes-clause-value
returns-else-takes-clause-value g c table source sees has =
    sym (append-nil c.args.out.now)
    ∙ ap (λ (l : List NodeRef). c.args.out.now ++ l)
    (sym (taken_one c.args.names.now c.label_of.new.tape.cells (g.V.SourceView.cells c.args.view.now) table source c.args.along c.args.test.now c.args.node c.in-Some.kind c.in-Some.name false sees has
    (λ s agrees. sym c.in-Some.is ∙ c.in_ok-kind.ensures.value s agrees) (sym c.if-takes.false ∙ c.takes.ensures)))
