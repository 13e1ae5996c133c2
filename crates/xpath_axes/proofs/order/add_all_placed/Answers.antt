use Rattle.std.proofs.Common.{◌++◌, get_or, ap, ◌∙◌}
use Rattle.serna_kinds.specs.declared.cells.NodeRef.TheVariants as ref
use Rattle.source_model.specs.Cells.{cell_of}
use Rattle.std.proofs.lemmas.List.{take_all}
use Rattle.xpath_axes.specs.Ordered.{placed_one, placed_in}
use Rattle.xpath_axes.proofs.PathLemmas.{row_item}
use Rattle.xpath_axes.proofs.OrderedNodes.{placed_more}
use Rattle.xpath_axes.proofs.order.add_all_placed.Goals as goal

pub returns-in_err-add_placed-clause-before : goal.returns-in_err-add_placed-clause-before
returns-in_err-add_placed-clause-before g c other agrees = c.loop-node.invariant.0 other (c.add_placed.ensures.before other agrees)

pub returns-in_err-add_placed-clause-within : goal.returns-in_err-add_placed-clause-within
returns-in_err-add_placed-clause-within g c allowed table source proper agrees row old =
    c.add_placed.ensures.within allowed table source proper agrees (row_item allowed source c.args.refs.now c.loop-node.node-index (ref.Node (record { 0 = 0 })) c.loop-node-test.true row)
    (c.loop-node.invariant.3 allowed table source proper (c.add_placed.ensures.before (cell_of source) agrees) row old)

pub loop-node-preserved : goal.loop-node-preserved
loop-node-preserved g c = (
  λ other agrees. c.loop-node.invariant.0 other (c.add_placed.ensures.before other agrees),
  c.add_placed.ensures.place ∙ c.loop-node.invariant.1,
  λ table source proper agrees.
      c.in_ok-add_placed.ensures.value table source proper agrees
      ∙ ap (λ l. l ++ placed_one source (get_or c.args.refs.now c.loop-node.node-index (ref.Node (record { 0 = 0 })))) (c.loop-node.invariant.2 table source proper (c.add_placed.ensures.before (cell_of source) agrees))
      ∙ placed_more source c.args.refs.now c.loop-node.node-index (ref.Node (record { 0 = 0 })) c.args.out.now.items c.loop-node-test.true,
  λ allowed table source proper agrees row old.
      c.add_placed.ensures.within allowed table source proper agrees (row_item allowed source c.args.refs.now c.loop-node.node-index (ref.Node (record { 0 = 0 })) c.loop-node-test.true row)
      (c.loop-node.invariant.3 allowed table source proper (c.add_placed.ensures.before (cell_of source) agrees) row old),
)

pub returns-clause-value : goal.returns-clause-value
returns-clause-value g c table source proper agrees =
    c.loop-node.invariant.2 table source proper agrees ∙ ap (λ l. c.args.out.now.items ++ placed_in source l) (take_all c.loop-node.node-index c.args.refs.now c.loop-node-test.false)
