use Rattle.std.proofs.Common.{◌<◌, sym, ◌∙◌, subst, nat_eq, length}
use Rattle.dependency_log.specs.Edges.{cell_number, slot_number}
use Rattle.dependency_log.proofs.Numbers.{first_at}
use Rattle.dependency_log.proofs.EdgeLemmas.{number_found}
use Rattle.dependency_log.proofs.StepLemmas.{Pushed, pushed_at, pushed_cells, pushed_same, pushed_sound}
use Rattle.dependency_log.proofs.edges.Edges.connect_one.Goals as goal

-- the new edge, between the numbers of the cell and the slot
new_edge : (c : goal.After-push_back) → (cell_number c.args.self.now c.args.cell < length c.args.self.now.cells.keys)
    × (slot_number c.args.self.now c.args.slot < length c.args.self.now.slots.keys)
    × Pushed c.args.self.now.threads c.push_back.new.self (cell_number c.args.self.now c.args.cell) (slot_number c.args.self.now c.args.slot) c.push_back.result
new_edge c =
    let left = number_found c.args.cell c.args.self.now.cells.keys c.get_index_of.result c.unwrap-left.result c.get_index_of.ensures.index c.unwrap-left.ensures in
    let right = first_at (nat_eq c.args.slot) c.args.self.now.slots.keys c.unwrap-right.result (sym c.get_index_of-2.ensures.index ∙ c.unwrap-right.ensures) in (
      subst (λ n. n < length c.args.self.now.cells.keys) (sym left.1) left.0,
      subst (λ n. n < length c.args.self.now.slots.keys) (sym right.1) right.0,
      pushed_at c.args.self.now c.push_back.new.self c.args.slot c.unwrap-left.result c.unwrap-right.result c.push_back.result c.args.cell left.1 right.1 (record {
        fresh = c.push_back.ensures.fresh;
        item = c.push_back.ensures.item;
        right_end = c.push_back.ensures.right_end;
        other_right_lists = c.push_back.ensures.other_right_lists;
        other_items = c.push_back.ensures.other_items;
        same_lefts = c.push_back.ensures.same_lefts;
        same_rights = c.push_back.ensures.same_rights;
        woven = c.push_back.ensures.woven;
      }),
    )

pub returns-clause-cells : goal.returns-clause-cells
returns-clause-cells c =
    let edge = new_edge c in
    pushed_cells c.args.self.now c.push_back.new.self c.args.slot c.args.cell c.push_back.result c.requires.sound edge.0 edge.1 edge.2

pub returns-clause-same : goal.returns-clause-same
returns-clause-same c =
    let edge = new_edge c in
    pushed_same c.args.self.now c.push_back.new.self c.args.slot c.args.cell c.push_back.result c.requires.sound edge.0 edge.1 edge.2

pub returns-clause-sound : goal.returns-clause-sound
returns-clause-sound c =
    let edge = new_edge c in
    pushed_sound c.args.self.now c.push_back.new.self c.args.slot c.args.cell c.push_back.result c.requires.sound edge.0 edge.1 edge.2 c.requires.apart
