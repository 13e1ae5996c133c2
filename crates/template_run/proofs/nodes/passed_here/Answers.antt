use Rattle.std.proofs.Common.{◌∙◌, sym, ap, arith}
use Rattle.std.specs.List.{list_all}
use Rattle.source_model.specs.Cells.{cell_of}
use Rattle.template_run.specs.Nodes.{is_here}
use Rattle.template_run.specs.Allowed.{presence_cells}
use Rattle.template_run.proofs.PassedLemmas.{passed_more, passed_failed, passed_cells_of}
use Rattle.template_run.proofs.nodes.passed_here.Goals as goal

pub returns-in_err-all_here-clause-before : goal.returns-in_err-all_here-clause-before
returns-in_err-all_here-clause-before g c other agrees = c.loop-binding.invariant.0 other (c.all_here.ensures.before other agrees)

pub returns-in_err-all_here-clause-within : goal.returns-in_err-all_here-clause-within
returns-in_err-all_here-clause-within g c allowed cells old =
    c.all_here.ensures.within allowed
    (passed_cells_of allowed presence_cells c.args.passed.now c.loop-binding.binding-index c.binding-item.result c.nodes_in.result.now (omega arith) c.binding-item.is c.nodes_in.ensures cells)
    (c.loop-binding.invariant.3 allowed cells old)

pub returns-then-not-branch-clause-before : goal.returns-then-not-branch-clause-before
returns-then-not-branch-clause-before g c other agrees = c.loop-binding.invariant.0 other (c.all_here.ensures.before other agrees)

pub returns-then-not-branch-clause-value : goal.returns-then-not-branch-clause-value
returns-then-not-branch-clause-value g c source agrees =
    passed_failed (is_here source) c.args.passed.now c.loop-binding.binding-index c.binding-item.result _ (omega arith) c.binding-item.is
    (sym (ap (list_all (is_here source)) c.nodes_in.ensures) ∙ sym (c.in_ok-all_here.ensures.value source agrees) ∙ c.if-not-branch.true)
    (c.loop-binding.invariant.2 source (c.all_here.ensures.before (cell_of source) agrees))

pub returns-then-not-branch-clause-within : goal.returns-then-not-branch-clause-within
returns-then-not-branch-clause-within g c allowed cells old =
    c.all_here.ensures.within allowed
    (passed_cells_of allowed presence_cells c.args.passed.now c.loop-binding.binding-index c.binding-item.result c.nodes_in.result.now (omega arith) c.binding-item.is c.nodes_in.ensures cells)
    (c.loop-binding.invariant.3 allowed cells old)

pub loop-binding-preserved : goal.loop-binding-preserved
loop-binding-preserved g c = (
  λ other agrees. c.loop-binding.invariant.0 other (c.all_here.ensures.before other agrees),
  c.all_here.ensures.place ∙ c.loop-binding.invariant.1,
  λ source agrees.
      passed_more (is_here source) c.args.passed.now c.loop-binding.binding-index c.binding-item.result _ (omega arith) c.binding-item.is
      (sym (ap (list_all (is_here source)) c.nodes_in.ensures) ∙ sym (c.in_ok-all_here.ensures.value source agrees) ∙ c.if-not-branch.false)
      (c.loop-binding.invariant.2 source (c.all_here.ensures.before (cell_of source) agrees)),
  λ allowed cells old.
      c.all_here.ensures.within allowed
      (passed_cells_of allowed presence_cells c.args.passed.now c.loop-binding.binding-index c.binding-item.result c.nodes_in.result.now (omega arith) c.binding-item.is c.nodes_in.ensures cells)
      (c.loop-binding.invariant.3 allowed cells old),
)
