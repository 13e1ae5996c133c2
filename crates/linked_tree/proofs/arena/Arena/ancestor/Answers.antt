use Rattle.std.proofs.Common.{◌∙◌, sym}
use Rattle.linked_tree.proofs.KidLemmas.{parent_within}
use Rattle.linked_tree.proofs.WayLemmas.{parent_high, up_one}
use Rattle.linked_tree.proofs.arena.Arena.ancestor.Goals as goal

pub unwrap-at-requires : goal.unwrap-at-requires
unwrap-at-requires c =
    parent_high c.args.self.now c.loop-level._level c.args.levels c.args.node c.loop-level.at c.parent.result c.loop-level.invariant.0 c.loop-level-test.true c.requires.high c.parent.ensures.parent

pub loop-level-preserved : goal.loop-level-preserved
loop-level-preserved c = (
  up_one c.args.self.now c.loop-level._level c.args.node c.loop-level.at _ c.loop-level.invariant.0 (sym c.parent.ensures.parent ∙ c.unwrap-at.ensures),
  parent_within c.args.self.now c.loop-level.at c.unwrap-at.result c.parent.ensures.forest (sym c.parent.ensures.parent ∙ c.unwrap-at.ensures),
)
