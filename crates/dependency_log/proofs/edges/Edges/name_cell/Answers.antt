use Rattle.std.proofs.Common.{refl, sym, subst}
use Rattle.std.specs.Prelude.{Contains}
use Rattle.serna_kinds.proofs.TapeLemmas.{with_cell-inserted, Contains-with_cell}
use Rattle.dependency_log.proofs.StepLemmas.{cell_named}
use Rattle.dependency_log.proofs.edges.Edges.name_cell.Goals as goal

pub returns-clause-cell : goal.returns-clause-cell
returns-clause-cell c =
    subst (λ ks. Contains ks c.args.cell) (sym (with_cell-inserted _ _ _ c.args.cell c.in_ok-insert.ensures.keys refl)) (Contains-with_cell c.args.self.now.cells.keys c.args.cell)

pub returns-clause-same : goal.returns-clause-same
returns-clause-same c =
    cell_named c.args.self.now (record c.args.self.now { cells = c.insert.new.self }) c.args.cell c.requires.sound refl refl
    (with_cell-inserted _ _ _ c.args.cell c.in_ok-insert.ensures.keys refl)
