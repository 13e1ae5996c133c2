use Rattle.std.proofs.Common.{◌≡◌, ◌++◌, List, sym, ap, ◌∙◌, subst}
use Rattle.std.proofs.lemmas.Result.{IfOk-weaker}
use Rattle.serna_kinds.specs.declared.cells.NodeRef.{NodeRef}
use Rattle.serna_kinds.specs.Names.{NameParts}
use Rattle.serna_kinds.specs.Tape.{Agrees, Within}
use Rattle.source_model.specs.Source.{Source}
use Rattle.source_model.specs.Cells.{cell_of}
use Rattle.source_model.specs.Proper.{IsProper}
use Rattle.source_model.specs.DocumentOrder.{ordered}
use Rattle.xpath_axes.specs.Order.{order_cells}
use Rattle.xpath_axes.specs.Ordered.{placed_in, AreSortedFrom}
use Rattle.xpath_axes.proofs.OrderedNodes.{sorted_ordered}
use Rattle.xpath_axes.proofs.order.document_order.Goals as goal

pub returns-in_err-add_all_placed-clause-within : goal.returns-in_err-add_all_placed-clause-within
returns-in_err-add_all_placed-clause-within g c allowed table source proper agrees row old =
    c.add_all_placed.ensures.within allowed table source proper agrees (subst (λ (rs : List NodeRef). Within allowed (order_cells source rs)) (sym c.as_slice.ensures) row) old

pub returns-clause-within : goal.returns-clause-within
returns-clause-within g c allowed table source proper agrees row old =
    c.add_all_placed.ensures.within allowed table source proper agrees (subst (λ (rs : List NodeRef). Within allowed (order_cells source rs)) (sym c.as_slice.ensures) row) old

pub returns-clause-value : goal.returns-clause-value
returns-clause-value g c =
    IfOk-weaker c.in_order.result
    (λ found. AreSortedFrom c.add_all_placed.new.out.items found)
    (λ found. (table : List NameParts) (source : Source) → IsProper table source → Agrees c.add_all_placed.new.tape.cells (g.V.SourceView.cells c.args.view.now) (cell_of source) → found ≡ ordered source c.args.refs)
    (λ found s table source proper agrees.
    sorted_ordered table source c.args.refs c.add_all_placed.new.out.items found proper
    (c.in_ok-add_all_placed.ensures.value table source proper agrees
    ∙ ap (λ l. l ++ placed_in source c.as_slice.result.now) c.new-placed.ensures.items
    ∙ ap (placed_in source) c.as_slice.ensures) s)
    c.in_order.ensures
