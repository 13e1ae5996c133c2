use Rattle.std.proofs.Common.{◌∙◌, sym, arith}
use Rattle.source_model.specs.Cells.{cell_of}
use Rattle.template_run.specs.Nodes.{is_here}
use Rattle.template_run.specs.Allowed.{presence_cells}
use Rattle.template_run.proofs.LogLemmas.{cells_of_one, all_passed}
use Rattle.template_run.proofs.nodes.all_here.Goals as goal

pub returns-in_err-is_here-clause-before : goal.returns-in_err-is_here-clause-before
returns-in_err-is_here-clause-before g c other agrees = c.loop-node.invariant.0 other (c.is_here.ensures.before other agrees)

pub returns-in_err-is_here-clause-within : goal.returns-in_err-is_here-clause-within
returns-in_err-is_here-clause-within g c allowed cells old =
    c.is_here.ensures.within allowed (cells_of_one allowed presence_cells c.args.nodes.now c.loop-node.node-index _ (omega arith) cells) (c.loop-node.invariant.3 allowed cells old)

pub returns-then-not-branch-clause-before : goal.returns-then-not-branch-clause-before
returns-then-not-branch-clause-before g c other agrees = c.loop-node.invariant.0 other (c.is_here.ensures.before other agrees)

pub returns-then-not-branch-clause-within : goal.returns-then-not-branch-clause-within
returns-then-not-branch-clause-within g c allowed cells old =
    c.is_here.ensures.within allowed (cells_of_one allowed presence_cells c.args.nodes.now c.loop-node.node-index _ (omega arith) cells) (c.loop-node.invariant.3 allowed cells old)

pub loop-node-preserved : goal.loop-node-preserved
loop-node-preserved g c = (
  λ other agrees. c.loop-node.invariant.0 other (c.is_here.ensures.before other agrees),
  c.is_here.ensures.place ∙ c.loop-node.invariant.1,
  λ source agrees.
      all_passed (is_here source) c.args.nodes.now c.loop-node.node-index _ _ (omega arith) (sym (c.in_ok-is_here.ensures.value source agrees) ∙ c.if-not-branch.false)
      (c.loop-node.invariant.2 source (c.is_here.ensures.before (cell_of source) agrees)),
  λ allowed cells old.
      c.is_here.ensures.within allowed (cells_of_one allowed presence_cells c.args.nodes.now c.loop-node.node-index _ (omega arith) cells) (c.loop-node.invariant.3 allowed cells old),
)
