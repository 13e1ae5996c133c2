use Rattle.std.proofs.Common.{◌≡◌, ◌+◌, ◌*◌, ◌++◌, Bool, take}
use Rattle.std.specs.List.{flat_map, AllByRecursion}
use Rattle.serna_kinds.specs.declared.cells.Cell.{Cell}
use Rattle.serna_kinds.specs.Tape.{Agrees, SeenBefore, Within}
use Rattle.source_model.specs.Source.{Source}
use Rattle.source_model.specs.Cells.{cell_of}
use Rattle.xpath_axes.specs.Strings.{texts_at, MayJoin}
use Rattle.xpath_axes.proofs.strings.+texts.Given as goal

abbrev pub decreases-add_texts : goal.decreases-add_texts
decreases-add_texts g l = 2 * l.left

abbrev pub decreases-add_texts_below : goal.decreases-add_texts_below
decreases-add_texts_below g l = 2 * l.left + 1

-- the texts of the children so far are added
abbrev pub invariant-add_texts_below-loop-kid : goal.invariant-add_texts_below-loop-kid
invariant-add_texts_below-loop-kid g l =
    SeenBefore l.initial.tape.cells l.tape.cells (g.V.SourceView.cells l.view)
    × (l.tape.place_read ≡ l.initial.tape.place_read)
    × ((source : Source) → Agrees l.tape.cells (g.V.SourceView.cells l.view) (cell_of source) → l.out ≡ l.initial.out ++ flat_map (texts_at source l.left) (take l.kid-index l.kids))
    × ((allowed : Cell → Bool) (source : Source) → Agrees l.tape.cells (g.V.SourceView.cells l.view) (cell_of source) → AllByRecursion (MayJoin allowed source l.left) l.kids →
    Within allowed l.initial.tape.cells → Within allowed l.tape.cells)
