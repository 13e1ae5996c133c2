use Rattle.std.proofs.Common.{◌<◌, length, sym, ap, ◌∙◌, subst, rules}
use Rattle.std.specs.Prelude.{Contains, slice_index_or}
use Rattle.std.specs.List.{list_any}
use Rattle.serna_kinds.specs.Tape.{is_cell}
use Rattle.dependency_log.specs.Edges.{no_cell}
use Rattle.dependency_log.proofs.LawLemmas.{apart_before}
use Rattle.dependency_log.proofs.edges.Edges.connect.Goals as goal

pub connect_one-requires-clause-cell : goal.connect_one-requires-clause-cell
connect_one-requires-clause-cell c =
    let within : c.loop-cell.cell-index < length c.args.cells.now = search rules in
    subst (λ ks. Contains ks (slice_index_or c.args.cells.now c.loop-cell.cell-index no_cell)) (sym c.loop-cell.invariant.same.cell_numbers)
    (c.requires.cells c.loop-cell.cell-index no_cell within)

pub connect_one-requires-clause-apart : goal.connect_one-requires-clause-apart
connect_one-requires-clause-apart c =
    let within : c.loop-cell.cell-index < length c.args.cells.now = search rules in
    ap (list_any (is_cell (slice_index_or c.args.cells.now c.loop-cell.cell-index no_cell))) c.loop-cell.invariant.cells
    ∙ apart_before c.args.cells.now c.loop-cell.cell-index no_cell c.requires.distinct within
