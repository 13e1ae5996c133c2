use Rattle.std.proofs.Common.{◌≡◌, List, sym, ap, ◌∙◌, subst}
use Rattle.std.proofs.lemmas.Result.{IfOk-weaker}
use Rattle.serna_kinds.specs.declared.cells.NodeRef.{NodeRef}
use Rattle.serna_kinds.specs.declared.cells.NodeRef.TheVariants as ref
use Rattle.serna_kinds.specs.Names.{NameParts}
use Rattle.serna_kinds.specs.Tape.{Agrees, Within}
use Rattle.source_model.specs.Source.{Source}
use Rattle.source_model.specs.Cells.{cell_of}
use Rattle.source_model.specs.Proper.{IsProper}
use Rattle.source_model.specs.Paths.{path_of}
use Rattle.xpath_axes.specs.Order.{path_by, attribute_path_by, order_cells_of}
use Rattle.xpath_axes.proofs.PathSteps.{path_read}
use Rattle.xpath_axes.proofs.PathLemmas.{attribute_read, node_climbs, attribute_first, attribute_climbs}
use Rattle.xpath_axes.proofs.order.path_of.Goals as goal

pub returns-in-Node-clause-value : goal.returns-in-Node-clause-value
returns-in-Node-clause-value g c =
    IfOk-weaker c.node_path.result
    (λ path. (source : Source) → Agrees c.node_path.new.tape.cells (g.V.SourceView.cells c.args.view.now) (cell_of source) → path ≡ path_by source 122 c.in-Node.number)
    (λ path. (table : List NameParts) (source : Source) → IsProper table source → Agrees c.node_path.new.tape.cells (g.V.SourceView.cells c.args.view.now) (cell_of source) → path ≡ path_of source c.args.node)
    (λ path is table source proper agrees. is source agrees ∙ path_read table source c.in-Node.number proper ∙ ap (path_of source) (sym c.in-Node.is))
    c.node_path.ensures.value

pub returns-in-Node-clause-within : goal.returns-in-Node-clause-within
returns-in-Node-clause-within g c allowed table source proper agrees row old =
    c.node_path.ensures.within allowed source agrees
    (node_climbs allowed table source c.in-Node.number proper (subst (λ (r : NodeRef). Within allowed (order_cells_of source r)) c.in-Node.is row)) old

pub returns-in-Attr-clause-value : goal.returns-in-Attr-clause-value
returns-in-Attr-clause-value g c =
    IfOk-weaker c.attribute_path.result
    (λ path. (source : Source) → Agrees c.attribute_path.new.tape.cells (g.V.SourceView.cells c.args.view.now) (cell_of source) → path ≡ attribute_path_by source 122 c.in-Attr.number c.in-Attr.name)
    (λ path. (table : List NameParts) (source : Source) → IsProper table source → Agrees c.attribute_path.new.tape.cells (g.V.SourceView.cells c.args.view.now) (cell_of source) → path ≡ path_of source c.args.node)
    (λ path is table source proper agrees. is source agrees ∙ attribute_read table source c.in-Attr.number c.in-Attr.name proper ∙ ap (path_of source) (sym c.in-Attr.is))
    c.attribute_path.ensures.value

pub returns-in-Attr-clause-within : goal.returns-in-Attr-clause-within
returns-in-Attr-clause-within g c allowed table source proper agrees row old =
    let own : Within allowed (order_cells_of source (ref.Attr c.in-Attr.number c.in-Attr.name)) = subst (λ (r : NodeRef). Within allowed (order_cells_of source r)) c.in-Attr.is row in
    c.attribute_path.ensures.within allowed source agrees (attribute_first allowed source c.in-Attr.number c.in-Attr.name own)
    (λ q at. attribute_climbs allowed table source c.in-Attr.number c.in-Attr.name q proper at own) old
