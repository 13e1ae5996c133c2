use Rattle.std.proofs.Common.{◌++◌, ◌∷◌, [], ◌-◌, List, get_or, ap, subst, sym, ◌∙◌, arith, append_assoc}
use Rattle.std.proofs.lemmas.Result.{on_ok_weaker}
use Rattle.serna_kinds.specs.declared.cells.NodeName.{NodeName}
use Rattle.serna_kinds.specs.declared.cells.Facet.TheVariants as facet
use Rattle.source_model.specs.Cells.{cell_of}
use Rattle.xpath_axes.specs.Walks.{below_one, below}
use Rattle.xpath_axes.specs.Allowed.{MayRead}
use Rattle.xpath_axes.proofs.MayLemmas.{kids_both, may_one, below_more, below_one_is}
use Rattle.xpath_axes.proofs.walks.+downward.Goals as goal

pub add_below-returns-in_err-add_with_below-clause-before : goal.add_below-returns-in_err-add_with_below-clause-before
add_below-returns-in_err-add_with_below-clause-before g t c other agrees = c.loop-node.invariant.0 other (c.add_with_below.ensures.before other agrees)

pub add_below-returns-in_err-add_with_below-clause-within : goal.add_below-returns-in_err-add_with_below-clause-within
add_below-returns-in_err-add_with_below-clause-within g t c allowed source agrees may old =
    c.add_with_below.ensures.within allowed source agrees (may_one allowed facet.Kids (below_one source c.args.left) c.args.nodes.now c.loop-node.node-index (record { 0 = 0 }) (omega arith) may)
    (c.loop-node.invariant.3 allowed source (c.add_with_below.ensures.before (cell_of source) agrees) may old)

pub add_below-loop-node-preserved : goal.add_below-loop-node-preserved
add_below-loop-node-preserved g t c = (
  λ other agrees. c.loop-node.invariant.0 other (c.add_with_below.ensures.before other agrees),
  c.add_with_below.ensures.place ∙ c.loop-node.invariant.1,
  λ source agrees.
      c.in_ok-add_with_below.ensures.value source agrees
      ∙ ap (λ (l : List NodeName). l ++ below_one source c.args.left (get_or c.args.nodes.now c.loop-node.node-index (record { 0 = 0 })))
      (c.loop-node.invariant.2 source (c.add_with_below.ensures.before (cell_of source) agrees))
      ∙ below_more source c.args.left c.args.nodes.now c.loop-node.node-index (record { 0 = 0 }) c.args.out.now (omega arith),
  λ allowed source agrees may old.
      c.add_with_below.ensures.within allowed source agrees (may_one allowed facet.Kids (below_one source c.args.left) c.args.nodes.now c.loop-node.node-index (record { 0 = 0 }) (omega arith) may)
      (c.loop-node.invariant.3 allowed source (c.add_with_below.ensures.before (cell_of source) agrees) may old),
)

pub add_with_below-returns-in_err-kids-clause-within : goal.add_with_below-returns-in_err-kids-clause-within
add_with_below-returns-in_err-kids-clause-within g t c allowed source agrees may old =
    c.children_of.ensures.within allowed (subst (MayRead allowed facet.Kids) (below_one_is source c.args.left (c.args.left - 1) c.args.node (omega arith)) may).0 old

pub add_with_below-returns-clause-before : goal.add_with_below-returns-clause-before
add_with_below-returns-clause-before g t c other agrees = c.children_of.ensures.before other (c.add_below.ensures.before other agrees)

pub add_with_below-returns-clause-value : goal.add_with_below-returns-clause-value
add_with_below-returns-clause-value g t c =
    on_ok_weaker c.add_below.result
    (λ added source agrees.
    let earlier = c.add_below.ensures.before (cell_of source) agrees in
    let kids = kids_both source c.args.node c.in_ok-kids.kids.now (λ spot at. c.in_ok-kids.ensures.value source spot earlier at) (λ gone. c.in_ok-kids.ensures.absent source earlier gone) in
    added source agrees
    ∙ ap (λ (l : List NodeName). l ++ below source (c.args.left - 1) c.in_ok-kids.kids.now) c.in_ok-push.ensures.ok
    ∙ append_assoc c.args.out.now (c.args.node ∷ []) (below source (c.args.left - 1) c.in_ok-kids.kids.now)
    ∙ ap (λ (l : List NodeName). c.args.out.now ++ (c.args.node ∷ below source (c.args.left - 1) l)) kids
    ∙ ap (λ (l : List NodeName). c.args.out.now ++ l) (sym (below_one_is source c.args.left (c.args.left - 1) c.args.node (omega arith))))
    c.add_below.ensures.value

pub add_with_below-returns-clause-within : goal.add_with_below-returns-clause-within
add_with_below-returns-clause-within g t c allowed source agrees may old =
    let earlier = c.add_below.ensures.before (cell_of source) agrees in
    let kids = kids_both source c.args.node c.in_ok-kids.kids.now (λ spot at. c.in_ok-kids.ensures.value source spot earlier at) (λ gone. c.in_ok-kids.ensures.absent source earlier gone) in
    let parts = subst (MayRead allowed facet.Kids) (below_one_is source c.args.left (c.args.left - 1) c.args.node (omega arith)) may in
    c.add_below.ensures.within allowed source agrees (subst (λ (l : List NodeName). MayRead allowed facet.Kids (below source (c.args.left - 1) l)) (sym kids) parts.1)
    (c.children_of.ensures.within allowed parts.0 old)
