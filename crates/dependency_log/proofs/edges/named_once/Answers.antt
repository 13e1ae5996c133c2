use Rattle.std.proofs.Common.{◌<◌, ◌≤◌, [], length, take, sym, ap, ◌∙◌, subst, rules}
use Rattle.std.specs.Prelude.{slice_index_or}
use Rattle.std.proofs.lemmas.List.{take_more, take_all}
use Rattle.std.proofs.lemmas.List.Sums.{fold_push}
use Rattle.serna_kinds.specs.Tape.{with_cell, AreDistinctCells}
use Rattle.serna_kinds.proofs.TapeLemmas.{with_cell-inserted}
use Rattle.dependency_log.specs.Logged.{each_once}
use Rattle.dependency_log.specs.Edges.{no_cell}
use Rattle.dependency_log.proofs.LawLemmas.{each_once-distinct}
use Rattle.dependency_log.proofs.edges.named_once.Goals as goal

pub loop-cell-preserved : goal.loop-cell-preserved
loop-cell-preserved c =
    let within : c.loop-cell.cell-index < length c.args.cells.now = search rules in
    with_cell-inserted _ _ _ (slice_index_or c.args.cells.now c.loop-cell.cell-index no_cell) c.in_ok-insert.ensures.keys c.loop-cell.invariant
    ∙ sym (ap each_once (take_more c.args.cells.now c.loop-cell.cell-index no_cell within)
    ∙ fold_push with_cell [] (take c.loop-cell.cell-index c.args.cells.now) (slice_index_or c.args.cells.now c.loop-cell.cell-index no_cell))

pub returns-clause-distinct : goal.returns-clause-distinct
returns-clause-distinct c =
    let past : length c.args.cells.now ≤ c.loop-cell.cell-index = search rules in
    subst AreDistinctCells (sym (c.loop-cell.invariant ∙ ap each_once (take_all c.loop-cell.cell-index c.args.cells.now past))) (each_once-distinct c.args.cells.now)
