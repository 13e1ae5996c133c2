use Rattle.std.proofs.Common.{◌≡◌, Bool, drop}
use Rattle.std.specs.List.{flat_map, list_all}
use Rattle.serna_kinds.specs.declared.cells.Cell.{Cell}
use Rattle.serna_kinds.specs.Tape.{Agrees, SeenBefore, Within}
use Rattle.source_model.specs.Source.{Source}
use Rattle.source_model.specs.Cells.{cell_of}
use Rattle.template_run.specs.Nodes.{is_here}
use Rattle.template_run.specs.Batch.{passed_nodes}
use Rattle.template_run.specs.Allowed.{presence_cells}
use Rattle.template_run.proofs.nodes.passed_here.Given as goal

-- what is passed so far is there
abbrev pub invariant-loop-binding : goal.invariant-loop-binding
invariant-loop-binding g l =
    SeenBefore l.initial.tape.cells l.tape.cells (g.V.SourceView.cells l.view)
    × (l.tape.place_read ≡ l.initial.tape.place_read)
    × ((source : Source) → Agrees l.tape.cells (g.V.SourceView.cells l.view) (cell_of source) → list_all (is_here source) (passed_nodes (drop l.binding-index l.passed)) ≡ list_all (is_here source) (passed_nodes l.passed))
    × ((allowed : Cell → Bool) → Within allowed (flat_map presence_cells (passed_nodes l.passed)) → Within allowed l.initial.tape.cells → Within allowed l.tape.cells)
