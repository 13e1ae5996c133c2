use Rattle.std.proofs.Common.{◌<◌, ◌≤◌, length, take, sym, ◌∙◌, subst, rules, arith}
use Rattle.std.specs.Prelude.{All, Contains, slice_index_or}
use Rattle.std.proofs.lemmas.List.{take_more, take_all}
use Rattle.std.proofs.lemmas.List.Elements.{All-push, All-weaker}
use Rattle.dependency_log.specs.Edges.{no_cell}
use Rattle.dependency_log.proofs.edges.Edges.name_cells.Goals as goal

pub loop-cell-preserved : goal.loop-cell-preserved
loop-cell-preserved c =
    let within : c.loop-cell.cell-index < length c.args.cells.now = search rules in
    record {
      sound = c.name_cell.ensures.sound;
      cells = subst (All (Contains c.name_cell.new.self.cells.keys)) (sym (take_more c.args.cells.now c.loop-cell.cell-index no_cell within))
          (All-push (Contains c.name_cell.new.self.cells.keys) (take c.loop-cell.cell-index c.args.cells.now) (slice_index_or c.args.cells.now c.loop-cell.cell-index no_cell)
          (All-weaker (Contains c.loop-cell.self.cells.keys) (Contains c.name_cell.new.self.cells.keys) c.name_cell.ensures.others (take c.loop-cell.cell-index c.args.cells.now) c.loop-cell.invariant.cells)
          c.in_ok-name_cell.ensures.cell);
      count = omega (arith, c.name_cell.ensures.count, c.loop-cell.invariant.count);
      slots = c.name_cell.ensures.slots ∙ c.loop-cell.invariant.slots;
      threads = c.name_cell.ensures.threads ∙ c.loop-cell.invariant.threads;
      same = c.name_cell.ensures.same ∙ c.loop-cell.invariant.same;
    }

pub returns-clause-cells : goal.returns-clause-cells
returns-clause-cells c =
    let past : length c.args.cells.now ≤ c.loop-cell.cell-index = search rules in
    subst (All (Contains c.loop-cell.self.cells.keys)) (take_all c.loop-cell.cell-index c.args.cells.now past) c.loop-cell.invariant.cells
