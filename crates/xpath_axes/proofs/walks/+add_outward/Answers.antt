use Rattle.std.proofs.Common.{◌++◌, ◌-◌, List, sym, ap, ◌∙◌, arith, append_assoc}
use Rattle.std.proofs.lemmas.List.{append-nil}
use Rattle.std.proofs.lemmas.Result.{on_ok_weaker}
use Rattle.serna_kinds.specs.declared.cells.NodeName.{NodeName}
use Rattle.source_model.specs.Cells.{cell_of}
use Rattle.xpath_axes.specs.Walks.{step, outward}
use Rattle.xpath_axes.proofs.MayLemmas.{outward_is, outward_none, may_up, may_step}
use Rattle.xpath_axes.proofs.walks.+add_outward.Goals as goal

pub returns-in_err-parent-clause-within : goal.returns-in_err-parent-clause-within
returns-in_err-parent-clause-within g t c allowed source agrees may old =
    c.parent_of.ensures.within allowed (may_up allowed c.args.axis source c.args.left (c.args.left - 1) c.args.node (omega arith) may) old

pub returns-in_err-add_step-in-Some-clause-before : goal.returns-in_err-add_step-in-Some-clause-before
returns-in_err-add_step-in-Some-clause-before g t c other agrees = c.parent_of.ensures.before other (c.add_step.ensures.before other agrees)

pub returns-in_err-add_step-in-Some-clause-within : goal.returns-in_err-add_step-in-Some-clause-within
returns-in_err-add_step-in-Some-clause-within g t c allowed source agrees may old =
    let earlier = c.add_step.ensures.before (cell_of source) agrees in
    let parts = may_step allowed c.args.axis source c.args.left (c.args.left - 1) c.args.node c.in-Some.parent (omega arith) (sym c.in-Some.is ∙ c.in_ok-parent.ensures.value source earlier) may in
    c.add_step.ensures.within allowed source agrees parts.0
    (c.parent_of.ensures.within allowed (may_up allowed c.args.axis source c.args.left (c.args.left - 1) c.args.node (omega arith) may) old)

pub returns-in_ok-add_step-in-Some-clause-before : goal.returns-in_ok-add_step-in-Some-clause-before
returns-in_ok-add_step-in-Some-clause-before g t c other agrees = c.parent_of.ensures.before other (c.add_step.ensures.before other (c.add_outward.ensures.before other agrees))

pub returns-in_ok-add_step-in-Some-clause-value : goal.returns-in_ok-add_step-in-Some-clause-value
returns-in_ok-add_step-in-Some-clause-value g t c =
    on_ok_weaker c.add_outward.result
    (λ added source agrees.
    let at_step = c.add_outward.ensures.before (cell_of source) agrees in
    let earlier = c.add_step.ensures.before (cell_of source) at_step in
    added source agrees
    ∙ ap (λ (l : List NodeName). l ++ outward c.args.axis source (c.args.left - 1) c.in-Some.parent) (c.in_ok-add_step-in-Some.ensures.value source at_step)
    ∙ append_assoc c.args.out.now (step c.args.axis source c.args.node c.in-Some.parent) (outward c.args.axis source (c.args.left - 1) c.in-Some.parent)
    ∙ ap (λ (l : List NodeName). c.args.out.now ++ l)
    (sym (outward_is c.args.axis source c.args.left (c.args.left - 1) c.args.node c.in-Some.parent (omega arith) (sym c.in-Some.is ∙ c.in_ok-parent.ensures.value source earlier))))
    c.add_outward.ensures.value

pub returns-in_ok-add_step-in-Some-clause-within : goal.returns-in_ok-add_step-in-Some-clause-within
returns-in_ok-add_step-in-Some-clause-within g t c allowed source agrees may old =
    let at_step = c.add_outward.ensures.before (cell_of source) agrees in
    let earlier = c.add_step.ensures.before (cell_of source) at_step in
    let parts = may_step allowed c.args.axis source c.args.left (c.args.left - 1) c.args.node c.in-Some.parent (omega arith) (sym c.in-Some.is ∙ c.in_ok-parent.ensures.value source earlier) may in
    c.add_outward.ensures.within allowed source agrees parts.1
    (c.add_step.ensures.within allowed source at_step parts.0
    (c.parent_of.ensures.within allowed (may_up allowed c.args.axis source c.args.left (c.args.left - 1) c.args.node (omega arith) may) old))

pub returns-in-None-clause-value : goal.returns-in-None-clause-value
returns-in-None-clause-value g t c source agrees =
    sym (append-nil c.args.out.now)
    ∙ ap (λ (l : List NodeName). c.args.out.now ++ l) (sym (outward_none c.args.axis source c.args.left c.args.node (sym c.in-None.is ∙ c.in_ok-parent.ensures.value source agrees)))

pub returns-in-None-clause-within : goal.returns-in-None-clause-within
returns-in-None-clause-within g t c allowed source agrees may old =
    c.parent_of.ensures.within allowed (may_up allowed c.args.axis source c.args.left (c.args.left - 1) c.args.node (omega arith) may) old
