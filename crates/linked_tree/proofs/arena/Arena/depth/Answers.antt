use Rattle.std.proofs.Common.{◌<◌, sym, arith}
use Rattle.linked_tree.specs.Forest.{count}
use Rattle.linked_tree.proofs.WayLemmas.{level_within, up_one}
use Rattle.linked_tree.proofs.arena.Arena.depth.Goals as goal

pub overflow_add-depth : goal.overflow_add-depth
overflow_add-depth c =
    let lt : c.loop-parent.depth < count c.args.self.now = level_within c.args.self.now c.loop-parent.depth c.args.node c.loop-parent.at c.parent.ensures.forest c.requires c.loop-parent.invariant.0 in
    omega (arith, lt, c.parent.ensures.forest.few)

pub loop-parent-smaller : goal.loop-parent-smaller
loop-parent-smaller c =
    let lt : c.loop-parent.depth < count c.args.self.now = level_within c.args.self.now c.loop-parent.depth c.args.node c.loop-parent.at c.parent.ensures.forest c.requires c.loop-parent.invariant.0 in
    omega (arith, lt)

pub loop-parent-preserved : goal.loop-parent-preserved
loop-parent-preserved c =
    (up_one c.args.self.now c.loop-parent.depth c.args.node c.loop-parent.at _ c.loop-parent.invariant.0 (sym c.in-Some.ensures.parent), c.in-Some.ensures.made)
