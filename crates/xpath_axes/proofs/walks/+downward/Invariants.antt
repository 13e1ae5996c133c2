use Rattle.std.proofs.Common.{◌≡◌, ◌+◌, ◌*◌, ◌++◌, Bool, take}
use Rattle.serna_kinds.specs.declared.cells.Cell.{Cell}
use Rattle.serna_kinds.specs.declared.cells.Facet.TheVariants as facet
use Rattle.serna_kinds.specs.Tape.{Agrees, SeenBefore, Within}
use Rattle.source_model.specs.Source.{Source}
use Rattle.source_model.specs.Cells.{cell_of}
use Rattle.xpath_axes.specs.Walks.{below}
use Rattle.xpath_axes.specs.Allowed.{MayRead}
use Rattle.xpath_axes.proofs.walks.+downward.Given as goal

abbrev pub decreases-add_below : goal.decreases-add_below
decreases-add_below g l = 2 * l.left + 1

abbrev pub decreases-add_with_below : goal.decreases-add_with_below
decreases-add_with_below g l = 2 * l.left

-- what was noted is noted still; the nodes so far are there with all below them; the log is within what these may have read
abbrev pub invariant-add_below-loop-node : goal.invariant-add_below-loop-node
invariant-add_below-loop-node g l =
    SeenBefore l.initial.tape.cells l.tape.cells (g.V.SourceView.cells l.view)
    × (l.tape.place_read ≡ l.initial.tape.place_read)
    × ((source : Source) → Agrees l.tape.cells (g.V.SourceView.cells l.view) (cell_of source) → l.out ≡ l.initial.out ++ below source l.left (take l.node-index l.nodes))
    × ((allowed : Cell → Bool) (source : Source) → Agrees l.tape.cells (g.V.SourceView.cells l.view) (cell_of source) → MayRead allowed facet.Kids (below source l.left l.nodes) →
    Within allowed l.initial.tape.cells → Within allowed l.tape.cells)
