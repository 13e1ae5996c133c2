use Rattle.std.proofs.Common.{◌≡◌, Bool, drop}
use Rattle.std.specs.List.{flat_map, list_all}
use Rattle.serna_kinds.specs.declared.cells.Cell.{Cell}
use Rattle.serna_kinds.specs.Tape.{Agrees, SeenBefore, Within}
use Rattle.source_model.specs.Source.{Source}
use Rattle.source_model.specs.Cells.{cell_of}
use Rattle.template_run.specs.Nodes.{is_here}
use Rattle.template_run.specs.Allowed.{presence_cells}
use Rattle.template_run.proofs.nodes.all_here.Given as goal

-- the nodes so far are there
abbrev pub invariant-loop-node : goal.invariant-loop-node
invariant-loop-node g l =
    SeenBefore l.initial.tape.cells l.tape.cells (g.V.SourceView.cells l.view)
    × (l.tape.place_read ≡ l.initial.tape.place_read)
    × ((source : Source) → Agrees l.tape.cells (g.V.SourceView.cells l.view) (cell_of source) → list_all (is_here source) (drop l.node-index l.nodes) ≡ list_all (is_here source) l.nodes)
    × ((allowed : Cell → Bool) → Within allowed (flat_map presence_cells l.nodes) → Within allowed l.initial.tape.cells → Within allowed l.tape.cells)
