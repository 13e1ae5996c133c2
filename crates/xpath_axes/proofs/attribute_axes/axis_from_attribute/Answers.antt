use Rattle.std.proofs.Common.{◌++◌, List, ap, ◌∙◌}
use Rattle.serna_kinds.specs.declared.cells.NodeName.{NodeName}
use Rattle.serna_kinds.specs.declared.cells.NodeRef.{NodeRef}
use Rattle.source_model.specs.Cells.{cell_of}
use Rattle.xpath_axes.specs.Nodes.{attributes_at}
use Rattle.xpath_axes.specs.Taken.{taken_along, self_on}
use Rattle.xpath_axes.specs.Walks.{nodes_from}
use Rattle.xpath_axes.proofs.AttributeAxes.{attribute_axis_from, place_told, self-grown}
use Rattle.xpath_axes.proofs.AttributeRows.{attributes_row, leave_row}
use Rattle.xpath_axes.proofs.Attributes.{pairs_known}
use Rattle.xpath_axes.proofs.TakenLemmas.{found_nodes, nodes_may}
use Rattle.xpath_axes.proofs.attribute_axes.axis_from_attribute.Goals as goal

pub returns-in_err-attributes_of-clause-within : goal.returns-in_err-attributes_of-clause-within
returns-in_err-attributes_of-clause-within g c allowed table source sees row old =
    c.attributes_of.ensures.within allowed (attributes_row allowed c.args.axis source c.args.node c.args.name row) old

pub returns-in_default-clause-within : goal.returns-in_default-clause-within
returns-in_default-clause-within g c allowed table source sees row old =
    c.attributes_of.ensures.within allowed (attributes_row allowed c.args.axis source c.args.node c.args.name row) old

pub returns-in_err-add_self-clause-within : goal.returns-in_err-add_self-clause-within
returns-in_err-add_self-clause-within g c allowed table source sees row old =
    c.attributes_of.ensures.within allowed (attributes_row allowed c.args.axis source c.args.node c.args.name row) old

pub returns-in_err-add_nodes_from-clause-before : goal.returns-in_err-add_nodes_from-clause-before
returns-in_err-add_nodes_from-clause-before g c other agrees = c.attributes_of.ensures.before other (c.add_nodes_from.ensures.before other agrees)

pub returns-in_err-add_nodes_from-clause-within : goal.returns-in_err-add_nodes_from-clause-within
returns-in_err-add_nodes_from-clause-within g c allowed table source sees row old =
    let earlier = c.add_nodes_from.ensures.before (cell_of source) sees.agrees in
    let at = place_told c.args.name c.in_ok-attributes_of.field-0.now (attributes_at source c.args.node) c.place_of.result c.in-Some.field-0 c.place_of.ensures c.in-Some.is (c.in_ok-attributes_of.ensures.value source earlier) in
    c.add_nodes_from.ensures.within allowed source sees.agrees (leave_row allowed table source c.args.node c.args.name c.in-Some.field-0 sees.proper at c.args.axis row).0
    (c.attributes_of.ensures.within allowed (attributes_row allowed c.args.axis source c.args.node c.args.name row) old)

pub returns-in_err-add_all_taken-clause-before : goal.returns-in_err-add_all_taken-clause-before
returns-in_err-add_all_taken-clause-before g c other agrees = c.attributes_of.ensures.before other (c.add_nodes_from.ensures.before other (c.add_all_taken.ensures.before other agrees))

pub returns-in_err-add_all_taken-clause-within : goal.returns-in_err-add_all_taken-clause-within
returns-in_err-add_all_taken-clause-within g c allowed table source sees row old =
    let at_nodes = c.add_all_taken.ensures.before (cell_of source) sees.agrees in
    let at_pairs = c.add_nodes_from.ensures.before (cell_of source) at_nodes in
    let at = place_told c.args.name c.in_ok-attributes_of.field-0.now (attributes_at source c.args.node) c.place_of.result c.in-Some.field-0 c.place_of.ensures c.in-Some.is (c.in_ok-attributes_of.ensures.value source at_pairs) in
    let serves = leave_row allowed table source c.args.node c.args.name c.in-Some.field-0 sees.proper at c.args.axis row in
    c.add_all_taken.ensures.within allowed
    (nodes_may allowed c.as_slice.result.now c.add_nodes_from.new.out (nodes_from c.args.axis source c.args.node) c.as_slice.ensures
    (found_nodes c.new-nodes.result c.add_nodes_from.new.out (nodes_from c.args.axis source c.args.node) c.new-nodes.ensures (c.in_ok-add_nodes_from.ensures.value source at_nodes)) serves.1)
    (c.add_nodes_from.ensures.within allowed source at_nodes serves.0
    (c.attributes_of.ensures.within allowed (attributes_row allowed c.args.axis source c.args.node c.args.name row) old))

pub returns-clause-before : goal.returns-clause-before
returns-clause-before g c other agrees = c.attributes_of.ensures.before other (c.add_nodes_from.ensures.before other (c.add_all_taken.ensures.before other agrees))

pub returns-clause-within : goal.returns-clause-within
returns-clause-within g c allowed table source sees row old =
    let at_nodes = c.add_all_taken.ensures.before (cell_of source) sees.agrees in
    let at_pairs = c.add_nodes_from.ensures.before (cell_of source) at_nodes in
    let at = place_told c.args.name c.in_ok-attributes_of.field-0.now (attributes_at source c.args.node) c.place_of.result c.in-Some.field-0 c.place_of.ensures c.in-Some.is (c.in_ok-attributes_of.ensures.value source at_pairs) in
    let serves = leave_row allowed table source c.args.node c.args.name c.in-Some.field-0 sees.proper at c.args.axis row in
    c.add_all_taken.ensures.within allowed
    (nodes_may allowed c.as_slice.result.now c.add_nodes_from.new.out (nodes_from c.args.axis source c.args.node) c.as_slice.ensures
    (found_nodes c.new-nodes.result c.add_nodes_from.new.out (nodes_from c.args.axis source c.args.node) c.new-nodes.ensures (c.in_ok-add_nodes_from.ensures.value source at_nodes)) serves.1)
    (c.add_nodes_from.ensures.within allowed source at_nodes serves.0
    (c.attributes_of.ensures.within allowed (attributes_row allowed c.args.axis source c.args.node c.args.name row) old))

pub returns-clause-value : goal.returns-clause-value
returns-clause-value g c table source sees has =
    let at_nodes = c.add_all_taken.ensures.before (cell_of source) sees.agrees in
    let at_pairs = c.add_nodes_from.ensures.before (cell_of source) at_nodes in
    let home_pairs = c.add_nodes_from.ensures.before (cell_of sees.home) (c.add_all_taken.ensures.before (cell_of sees.home) sees.home_agrees) in
    let at = place_told c.args.name c.in_ok-attributes_of.field-0.now (attributes_at source c.args.node) c.place_of.result c.in-Some.field-0 c.place_of.ensures c.in-Some.is (c.in_ok-attributes_of.ensures.value source at_pairs) in
    let at_home = place_told c.args.name c.in_ok-attributes_of.field-0.now (attributes_at sees.home c.args.node) c.place_of.result c.in-Some.field-0 c.place_of.ensures c.in-Some.is (c.in_ok-attributes_of.ensures.value sees.home home_pairs) in
    c.in_ok-add_all_taken.ensures.value table source sees has
    ∙ ap (λ (l : List NodeRef). l ++ taken_along table c.args.axis c.args.test.now source c.as_slice.result.now)
    (c.in_ok-add_self.ensures ∙ ap (λ (l : List NodeRef). l ++ self_on c.args.names.now c.args.axis c.args.test.now c.args.node c.args.name) c.new-found.ensures
    ∙ self-grown c.args.names.now table c.args.axis c.args.test.now c.args.node c.args.name c.in-Some.field-0 (attributes_at sees.home c.args.node) sees.grows has (pairs_known c.args.names.now sees.home c.args.node sees.home_proper) at_home)
    ∙ ap (λ (l : List NodeName). self_on table c.args.axis c.args.test.now c.args.node c.args.name ++ taken_along table c.args.axis c.args.test.now source l)
    (c.as_slice.ensures ∙ found_nodes c.new-nodes.result c.add_nodes_from.new.out (nodes_from c.args.axis source c.args.node) c.new-nodes.ensures (c.in_ok-add_nodes_from.ensures.value source at_nodes))
    ∙ attribute_axis_from table c.args.axis c.args.test.now source c.args.node c.args.name c.in-Some.field-0 sees.proper at
