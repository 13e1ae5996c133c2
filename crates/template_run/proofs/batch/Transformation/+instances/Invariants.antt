use Rattle.std.proofs.Common.{◌≡◌, ◌+◌, ◌*◌, ◌++◌, List, Bool, length, take, Contains}
use Rattle.serna_kinds.specs.declared.cells.Cell.{Cell}
use Rattle.serna_kinds.specs.Names.{NameParts}
use Rattle.serna_kinds.specs.Tape.{SeenBefore, Within}
use Rattle.source_model.specs.Source.{Source}
use Rattle.source_model.specs.Sees.{Sees}
use Rattle.result_origin.specs.Parts.{said, holes, filled}
use Rattle.instance_store.specs.declared.request.Asked.{Asked}
use Rattle.template_run.specs.Labels.{KeepsNames}
use Rattle.template_run.specs.Filled.{filling}
use Rattle.template_run.specs.Allowed.{MayRead, AreAllowed}
use Rattle.template_run.proofs.batch.Transformation.+instances.Given as goal

abbrev pub decreases-add_instance : goal.decreases-add_instance
decreases-add_instance g l = 3 * l.left + 2

abbrev pub decreases-fill : goal.decreases-fill
decreases-fill g l = 3 * l.left + 1

abbrev pub decreases-fill_hole : goal.decreases-fill_hole
decreases-fill_hole g l = 3 * l.left

-- the parts so far are added
abbrev pub invariant-fill-loop-item : goal.invariant-fill-loop-item
invariant-fill-loop-item g l =
    SeenBefore l.initial.tape.cells l.tape.cells (g.V.SourceView.cells l.self.view.now)
    × (l.tape.place_read ≡ l.initial.tape.place_read)
    × ((table : List NameParts) (source : Source) → Sees l.self.names.now l.tape.cells (g.V.SourceView.cells l.self.view.now) table source →
    KeepsNames l.self.names.now table l.self.style.now → l.out ≡ l.initial.out ++ said (filled (filling table l.self.style.now l.left source) (take (length l.yielded) l.fn.instance)))
    × ((allowed : Cell → Bool) (table : List NameParts) (source : Source) → Sees l.self.names.now l.tape.cells (g.V.SourceView.cells l.self.view.now) table source →
    KeepsNames l.self.names.now table l.self.style.now → AreAllowed allowed source → ((asked : Asked) → Contains (holes l.fn.instance) asked → MayRead allowed asked.request) →
    Within allowed l.initial.tape.cells → Within allowed l.tape.cells)
