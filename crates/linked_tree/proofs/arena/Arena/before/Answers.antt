use Rattle.std.proofs.Common.{◌-◌, ◌∙◌, Some, sym, ap, arith}
use Rattle.linked_tree.proofs.WayLemmas.{high_told, depth_told, same_told, parted_told}
use Rattle.linked_tree.proofs.arena.Arena.before.Goals as goal

pub ancestor-x-requires-clause-high : goal.ancestor-x-requires-clause-high
ancestor-x-requires-clause-high c =
    high_told c.args.self.now c.args.a c.depth-depth_a.result c.min-depth.result c.depth-depth_a.ensures.above (omega arith)

pub ancestor-y-requires-clause-high : goal.ancestor-y-requires-clause-high
ancestor-y-requires-clause-high c =
    high_told c.args.self.now c.args.b c.depth-depth_b.result c.min-depth.result c.depth-depth_b.ensures.above (omega arith)

pub returns-then-x-y-clause-before : goal.returns-then-x-y-clause-before
returns-then-x-y-clause-before c =
    same_told c.args.self.now c.depth-depth_a.ensures.forest c.args.a c.args.b c.ancestor-x.result c.depth-depth_a.result c.depth-depth_b.result c.min-depth.result
    c.depth-depth_a.ensures.above c.depth-depth_b.ensures.above c.ancestor-x.ensures.above
    (c.ancestor-y.ensures.above ∙ ap Some (sym c.if-x-y.true)) c.min-depth.ensures

pub parting-x-requires-clause-depth_a : goal.parting-x-requires-clause-depth_a
parting-x-requires-clause-depth_a c =
    depth_told c.args.self.now c.args.a c.depth-depth_a.result c.min-depth.result c.ancestor-x.result c.depth-depth_a.ensures.above (omega arith) c.ancestor-x.ensures.above

pub parting-x-requires-clause-depth_b : goal.parting-x-requires-clause-depth_b
parting-x-requires-clause-depth_b c =
    depth_told c.args.self.now c.args.b c.depth-depth_b.result c.min-depth.result c.ancestor-y.result c.depth-depth_b.ensures.above (omega arith) c.ancestor-y.ensures.above

pub returns-clause-before : goal.returns-clause-before
returns-clause-before c =
    parted_told c.args.self.now c.depth-depth_a.ensures.forest c.args.a c.args.b c.ancestor-x.result c.ancestor-y.result c.depth-depth_a.result
    (c.depth-depth_a.result - c.min-depth.result) (c.depth-depth_b.result - c.min-depth.result) c.parting-x.result.0 c.parting-x.result.1 c.is_earlier.result
    c.depth-depth_a.ensures.above c.ancestor-x.ensures.above c.ancestor-y.ensures.above c.parting-x.ensures.parting c.is_earlier.ensures
