use Rattle.std.proofs.Common.{◌≡◌, ◌++◌, List, Bool, take}
use Rattle.serna_kinds.specs.declared.cells.Cell.{Cell}
use Rattle.serna_kinds.specs.Names.{NameParts}
use Rattle.serna_kinds.specs.Tape.{Agrees, SeenBefore, Within}
use Rattle.source_model.specs.Source.{Source}
use Rattle.source_model.specs.Cells.{cell_of}
use Rattle.source_model.specs.Proper.{IsProper}
use Rattle.xpath_axes.specs.Order.{order_cells}
use Rattle.xpath_axes.specs.Ordered.{placed_in}
use Rattle.xpath_axes.proofs.order.add_all_placed.Given as goal

-- what was noted is noted still; those so far are added, with their paths; the log is within each bound that the row meets
abbrev pub invariant-loop-node : goal.invariant-loop-node
invariant-loop-node g l =
    SeenBefore l.fn.tape.cells l.tape.cells (g.V.SourceView.cells l.view)
    × (l.tape.place_read ≡ l.fn.tape.place_read)
    × ((table : List NameParts) (source : Source) → IsProper table source → Agrees l.tape.cells (g.V.SourceView.cells l.view) (cell_of source) → l.out.items ≡ l.fn.out.items ++ placed_in source (take l.node-index l.refs))
    × ((allowed : Cell → Bool) (table : List NameParts) (source : Source) → IsProper table source → Agrees l.tape.cells (g.V.SourceView.cells l.view) (cell_of source) → Within allowed (order_cells source l.refs) →
    Within allowed l.fn.tape.cells → Within allowed l.tape.cells)
