use Rattle.std.proofs.Common.{subst}
use Rattle.serna_kinds.specs.declared.cells.NodeRef.{NodeRef}
use Rattle.serna_kinds.specs.Tape.{Within}
use Rattle.source_model.specs.Logged.{axis_cells}
use Rattle.xpath_axes.proofs.axes.axis.Goals as goal

pub returns-in-Node-clause-within : goal.returns-in-Node-clause-within
returns-in-Node-clause-within g c allowed table source sees row old =
    c.axis_from_node.ensures.within allowed table source sees (subst (λ (r : NodeRef). Within allowed (axis_cells c.args.axis source r)) c.in-Node.is row) old

pub returns-in-Attr-clause-within : goal.returns-in-Attr-clause-within
returns-in-Attr-clause-within g c allowed table source sees row old =
    c.axis_from_attribute.ensures.within allowed table source sees (subst (λ (r : NodeRef). Within allowed (axis_cells c.args.axis source r)) c.in-Attr.is row) old
