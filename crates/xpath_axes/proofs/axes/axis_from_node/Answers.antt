use Rattle.std.proofs.Common.{◌++◌, List, ap, ◌∙◌}
use Rattle.serna_kinds.specs.declared.cells.NodeName.{NodeName}
use Rattle.serna_kinds.specs.declared.cells.NodeRef.{NodeRef}
use Rattle.source_model.specs.Cells.{cell_of}
use Rattle.xpath_axes.specs.Taken.{taken_along, attributes_on}
use Rattle.xpath_axes.specs.Walks.{nodes_on}
use Rattle.xpath_axes.proofs.Attributes.{node_axis}
use Rattle.xpath_axes.proofs.Rows.{row_serves, own_serves}
use Rattle.xpath_axes.proofs.TakenLemmas.{sees_earlier, found_nodes, nodes_may}
use Rattle.xpath_axes.proofs.axes.axis_from_node.Goals as goal

pub returns-in_err-add_own_attributes-clause-within : goal.returns-in_err-add_own_attributes-clause-within
returns-in_err-add_own_attributes-clause-within g c allowed table source sees row old =
    c.add_own_attributes.ensures.within allowed (own_serves allowed c.args.axis source c.args.node row) old

pub returns-in_err-add_nodes_on-clause-before : goal.returns-in_err-add_nodes_on-clause-before
returns-in_err-add_nodes_on-clause-before g c other agrees = c.add_own_attributes.ensures.before other (c.add_nodes_on.ensures.before other agrees)

pub returns-in_err-add_nodes_on-clause-within : goal.returns-in_err-add_nodes_on-clause-within
returns-in_err-add_nodes_on-clause-within g c allowed table source sees row old =
    c.add_nodes_on.ensures.within allowed source sees.agrees (row_serves allowed c.args.axis table source c.args.node sees.proper row).0
    (c.add_own_attributes.ensures.within allowed (own_serves allowed c.args.axis source c.args.node row) old)

pub returns-in_err-add_all_taken-clause-before : goal.returns-in_err-add_all_taken-clause-before
returns-in_err-add_all_taken-clause-before g c other agrees = c.add_own_attributes.ensures.before other (c.add_nodes_on.ensures.before other (c.add_all_taken.ensures.before other agrees))

pub returns-in_err-add_all_taken-clause-within : goal.returns-in_err-add_all_taken-clause-within
returns-in_err-add_all_taken-clause-within g c allowed table source sees row old =
    let earlier = c.add_all_taken.ensures.before (cell_of source) sees.agrees in
    let serves = row_serves allowed c.args.axis table source c.args.node sees.proper row in
    c.add_all_taken.ensures.within allowed
    (nodes_may allowed c.as_slice.result.now c.add_nodes_on.new.out (nodes_on c.args.axis source c.args.node) c.as_slice.ensures
    (found_nodes c.new-nodes.result c.add_nodes_on.new.out (nodes_on c.args.axis source c.args.node) c.new-nodes.ensures (c.in_ok-add_nodes_on.ensures.value source earlier)) serves.1)
    (c.add_nodes_on.ensures.within allowed source earlier serves.0
    (c.add_own_attributes.ensures.within allowed (own_serves allowed c.args.axis source c.args.node row) old))

pub returns-clause-before : goal.returns-clause-before
returns-clause-before g c other agrees = c.add_own_attributes.ensures.before other (c.add_nodes_on.ensures.before other (c.add_all_taken.ensures.before other agrees))

pub returns-clause-within : goal.returns-clause-within
returns-clause-within g c allowed table source sees row old =
    let earlier = c.add_all_taken.ensures.before (cell_of source) sees.agrees in
    let serves = row_serves allowed c.args.axis table source c.args.node sees.proper row in
    c.add_all_taken.ensures.within allowed
    (nodes_may allowed c.as_slice.result.now c.add_nodes_on.new.out (nodes_on c.args.axis source c.args.node) c.as_slice.ensures
    (found_nodes c.new-nodes.result c.add_nodes_on.new.out (nodes_on c.args.axis source c.args.node) c.new-nodes.ensures (c.in_ok-add_nodes_on.ensures.value source earlier)) serves.1)
    (c.add_nodes_on.ensures.within allowed source earlier serves.0
    (c.add_own_attributes.ensures.within allowed (own_serves allowed c.args.axis source c.args.node row) old))

pub returns-clause-value : goal.returns-clause-value
returns-clause-value g c table source sees has =
    let at_nodes = sees_earlier _ _ _ _ table source c.add_all_taken.ensures.before sees in
    let at_own = sees_earlier _ _ _ _ table source c.add_nodes_on.ensures.before at_nodes in
    c.in_ok-add_all_taken.ensures.value table source sees has
    ∙ ap (λ (l : List NodeRef). l ++ taken_along table c.args.axis c.args.test.now source c.as_slice.result.now)
    (c.in_ok-add_own_attributes.ensures.value table source at_own has ∙ ap (λ (l : List NodeRef). l ++ attributes_on table c.args.axis c.args.test.now source c.args.node) c.new-found.ensures)
    ∙ ap (λ (l : List NodeName). attributes_on table c.args.axis c.args.test.now source c.args.node ++ taken_along table c.args.axis c.args.test.now source l)
    (c.as_slice.ensures ∙ found_nodes c.new-nodes.result c.add_nodes_on.new.out (nodes_on c.args.axis source c.args.node) c.new-nodes.ensures (c.in_ok-add_nodes_on.ensures.value source at_nodes.agrees))
    ∙ node_axis table c.args.axis c.args.test.now source c.args.node sees.proper
