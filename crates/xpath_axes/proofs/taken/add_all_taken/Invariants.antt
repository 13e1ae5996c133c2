use Rattle.std.proofs.Common.{◌≡◌, ◌++◌, List, Bool, take}
use Rattle.serna_kinds.specs.declared.cells.Cell.{Cell}
use Rattle.serna_kinds.specs.declared.cells.Facet.TheVariants as facet
use Rattle.serna_kinds.specs.Names.{NameParts}
use Rattle.serna_kinds.specs.Tape.{SeenBefore, Within}
use Rattle.source_model.specs.Source.{Source}
use Rattle.source_model.specs.Axes.{HasTest}
use Rattle.source_model.specs.Sees.{Sees}
use Rattle.xpath_axes.specs.Allowed.{MayRead}
use Rattle.xpath_axes.specs.Taken.{taken_along}
use Rattle.xpath_axes.proofs.taken.add_all_taken.Given as goal

-- what was noted is noted still; what is so far is what is taken of the nodes so far; the log is within each bound that the labels of the nodes meet
abbrev pub invariant-loop-node : goal.invariant-loop-node
invariant-loop-node g l =
    SeenBefore l.fn.tape.cells l.tape.cells (g.V.SourceView.cells l.view)
    × (l.tape.place_read ≡ l.fn.tape.place_read)
    × ((table : List NameParts) (source : Source) → Sees l.names l.tape.cells (g.V.SourceView.cells l.view) table source → HasTest l.names l.test →
    l.out ≡ l.fn.out ++ taken_along table l.along l.test source (take l.node-index l.nodes))
    × ((allowed : Cell → Bool) → MayRead allowed facet.Label l.nodes → Within allowed l.fn.tape.cells → Within allowed l.tape.cells)
