use Rattle.std.proofs.Common.{◌++◌, List, get_or, ap, ◌∙◌, arith}
use Rattle.serna_kinds.specs.declared.cells.NodeRef.{NodeRef}
use Rattle.serna_kinds.specs.declared.cells.Facet.TheVariants as facet
use Rattle.xpath_axes.specs.Taken.{taken_at}
use Rattle.xpath_axes.proofs.MayLemmas.{may_item}
use Rattle.xpath_axes.proofs.TakenLemmas.{sees_earlier, taken_more}
use Rattle.xpath_axes.proofs.taken.add_all_taken.Goals as goal

pub returns-in_err-add_taken-clause-before : goal.returns-in_err-add_taken-clause-before
returns-in_err-add_taken-clause-before g c other agrees = c.loop-node.invariant.0 other (c.add_taken.ensures.before other agrees)

pub returns-in_err-add_taken-clause-within : goal.returns-in_err-add_taken-clause-within
returns-in_err-add_taken-clause-within g c allowed may old =
    c.add_taken.ensures.within allowed (may_item allowed facet.Label c.args.nodes.now c.loop-node.node-index (record { 0 = 0 }) (omega arith) may) (c.loop-node.invariant.3 allowed may old)

pub loop-node-preserved : goal.loop-node-preserved
loop-node-preserved g c = (
  λ other agrees. c.loop-node.invariant.0 other (c.add_taken.ensures.before other agrees),
  c.add_taken.ensures.place ∙ c.loop-node.invariant.1,
  λ table source sees has.
      c.in_ok-add_taken.ensures.value table source sees has
      ∙ (ap (λ (l : List NodeRef). l ++ taken_at table c.args.along c.args.test.now source (get_or c.args.nodes.now c.loop-node.node-index (record { 0 = 0 })))
      (c.loop-node.invariant.2 table source (sees_earlier _ _ _ _ table source c.add_taken.ensures.before sees) has)
      ∙ taken_more table c.args.along c.args.test.now source c.args.nodes.now c.loop-node.node-index (record { 0 = 0 }) c.args.out.now (omega arith)),
  λ allowed may old.
      c.add_taken.ensures.within allowed (may_item allowed facet.Label c.args.nodes.now c.loop-node.node-index (record { 0 = 0 }) (omega arith) may) (c.loop-node.invariant.3 allowed may old),
)
