use Rattle.std.proofs.Common.{take, get_or, sym, subst}
use Rattle.std.proofs.lemmas.List.{take_more}
use Rattle.serna_kinds.specs.declared.cells.Cell.{Cell}
use Rattle.serna_kinds.specs.declared.cells.Facet.TheVariants as facet
use Rattle.frozen_tree.specs.Frozen.{cells_of}
use Rattle.source_steps.specs.Differences.{IsDifference}
use Rattle.source_steps.proofs.Differing.{one_cell_more}
use Rattle.source_steps.proofs.difference.Difference.between.Goals as goal

pub loop-cell-preserved : goal.loop-cell-preserved
loop-cell-preserved c =
    let cells = c.args.cells.now in
    let at = c.loop-cell.cell-index in
    let any : Cell = record { node = record { 0 = 0 }; facet = facet.Label } in
    subst (λ cs. IsDifference (cells_of c.args.old.now) (cells_of c.args.new.now) cs c.add.new.self) (sym (take_more cells at any c.loop-cell-test.true))
    (one_cell_more (cells_of c.args.old.now) (cells_of c.args.new.now) (take at cells) (get_or cells at any) c.loop-cell.difference c.add.new.self c.in_ok-add.ensures c.loop-cell.invariant)
