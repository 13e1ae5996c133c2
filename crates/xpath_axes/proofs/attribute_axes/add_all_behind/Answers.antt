use Rattle.std.proofs.Common.{◌++◌, List, ap, ◌∙◌, append_assoc}
use Rattle.std.proofs.lemmas.Result.{on_ok_weaker}
use Rattle.serna_kinds.specs.declared.cells.NodeName.{NodeName}
use Rattle.serna_kinds.specs.declared.expressions.Axis.TheVariants as axis
use Rattle.source_model.specs.Cells.{cell_of}
use Rattle.xpath_axes.specs.Nodes.{kids_at}
use Rattle.xpath_axes.specs.Walks.{levels, below, outward}
use Rattle.xpath_axes.proofs.attribute_axes.add_all_behind.Goals as goal

pub returns-in_err-add_descendants-clause-within : goal.returns-in_err-add_descendants-clause-within
returns-in_err-add_descendants-clause-within g c allowed source agrees may old = c.add_descendants.ensures.within allowed source agrees may.0 old

pub returns-clause-before : goal.returns-clause-before
returns-clause-before g c other agrees = c.add_descendants.ensures.before other (c.add_outward.ensures.before other agrees)

pub returns-clause-value : goal.returns-clause-value
returns-clause-value g c =
    on_ok_weaker c.add_outward.result
    (λ added source agrees.
    let earlier = c.add_outward.ensures.before (cell_of source) agrees in
    added source agrees
    ∙ ap (λ (l : List NodeName). l ++ outward axis.Following source levels c.args.node) (c.in_ok-add_descendants.ensures.value source earlier)
    ∙ append_assoc c.args.out.now (below source levels (kids_at source c.args.node)) (outward axis.Following source levels c.args.node))
    c.add_outward.ensures.value

pub returns-clause-within : goal.returns-clause-within
returns-clause-within g c allowed source agrees may old =
    let earlier = c.add_outward.ensures.before (cell_of source) agrees in
    c.add_outward.ensures.within allowed source agrees may.1 (c.add_descendants.ensures.within allowed source earlier may.0 old)
