use Rattle.std.proofs.Common.{sym, arith}
use Rattle.index_lists.proofs.Clearing.{Removed, clearing_none, clear_step, clear_shorter, cleared_empty, cleared_item, cleared_left, cleared_spare}
use Rattle.index_lists.proofs.Threads.clear_right.Goals as goal

pub loop-place-init : goal.loop-place-init
loop-place-init c = clearing_none c.args.self.now c.args.right

-- what the removal leaves
removed_here : (c : goal.After-remove) → Removed c.loop-place.self c.remove.new.self c.in-Some.place c.remove.result
removed_here c = record {
  item = c.remove.ensures.item;
  gone = c.remove.ensures.gone;
  left_out = c.remove.ensures.left_out;
  right_out = c.remove.ensures.right_out;
  spare = c.remove.ensures.spare;
  other_left_lists = c.remove.ensures.other_left_lists;
  other_right_lists = c.remove.ensures.other_right_lists;
  other_items = c.remove.ensures.other_items;
  same_lefts = c.remove.ensures.same_lefts;
  same_rights = c.remove.ensures.same_rights;
}

pub loop-place-smaller : goal.loop-place-smaller
loop-place-smaller c =
    omega (
      arith,
      clear_shorter c.args.self.now c.loop-place.self c.remove.new.self c.args.right c.in-Some.place c.remove.result.0 c.remove.result.1
          c.loop-place.invariant c.in-Some.ensures.woven (sym c.in-Some.ensures.first) c.in-Some.ensures.same_right (removed_here c),
    )

pub loop-place-preserved : goal.loop-place-preserved
loop-place-preserved c =
    clear_step c.args.self.now c.loop-place.self c.remove.new.self c.args.right c.in-Some.place c.remove.result.0 c.remove.result.1
    c.loop-place.invariant c.in-Some.ensures.woven (sym c.in-Some.ensures.first) c.in-Some.ensures.same_right (removed_here c)

pub returns-clause-empty : goal.returns-clause-empty
returns-clause-empty c = cleared_empty c.args.self.now c.loop-place.self c.args.right c.loop-place.invariant c.in_default.ensures.woven (sym c.in_default.ensures.first)

pub returns-clause-left_lists : goal.returns-clause-left_lists
returns-clause-left_lists c = cleared_left c.args.self.now c.loop-place.self c.args.right c.loop-place.invariant c.in_default.ensures.woven (sym c.in_default.ensures.first)

pub returns-clause-items : goal.returns-clause-items
returns-clause-items c = cleared_item c.args.self.now c.loop-place.self c.args.right c.loop-place.invariant c.in_default.ensures.woven (sym c.in_default.ensures.first)

pub returns-clause-spare : goal.returns-clause-spare
returns-clause-spare c = cleared_spare c.args.self.now c.loop-place.self c.args.right c.loop-place.invariant c.in_default.ensures.woven (sym c.in_default.ensures.first)
