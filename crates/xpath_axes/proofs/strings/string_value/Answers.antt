use Rattle.std.proofs.Common.{◌∙◌, sym, ap, subst}
use Rattle.serna_kinds.specs.declared.cells.NodeRef.{NodeRef}
use Rattle.serna_kinds.specs.Tape.{Within}
use Rattle.source_model.specs.Axes.{string_of}
use Rattle.xpath_axes.specs.Strings.{string_cells}
use Rattle.xpath_axes.proofs.StringLemmas.{may_string, may_attribute, ok_weaker}
use Rattle.xpath_axes.proofs.strings.string_value.Goals as goal

pub returns-in-Node-clause-value : goal.returns-in-Node-clause-value
returns-in-Node-clause-value g c =
    ok_weaker c.node_string.result (λ text told table source proper agrees. told table source proper agrees ∙ ap (string_of source) (sym c.in-Node.is)) c.node_string.ensures.value

pub returns-in-Node-clause-within : goal.returns-in-Node-clause-within
returns-in-Node-clause-within g c allowed table source proper agrees cells old =
    c.node_string.ensures.within allowed source agrees (may_string table allowed source 122 c.in-Node.number proper (subst (λ (r : NodeRef). Within allowed (string_cells source r)) c.in-Node.is cells)) old

pub returns-in-Attr-clause-within : goal.returns-in-Attr-clause-within
returns-in-Attr-clause-within g c allowed table source proper agrees cells old =
    c.attribute_string.ensures.within allowed (may_attribute allowed source c.in-Attr.number c.in-Attr.name (subst (λ (r : NodeRef). Within allowed (string_cells source r)) c.in-Attr.is cells)) old
