use Rattle.std.proofs.Common.{◌∙◌, refl, sym, subst}
use Rattle.std.specs.Prelude.{IsSome}
use Rattle.linked_tree.proofs.KidLemmas.{parent_within}
use Rattle.linked_tree.proofs.WayLemmas.{parent_some, up_one}
use Rattle.linked_tree.proofs.arena.Arena.parting.Goals as goal

pub unwrap-over_x-requires : goal.unwrap-over_x-requires
unwrap-over_x-requires c =
    subst (λ o. IsSome o) (sym (c.parent.ensures.parent ∙ (parent_some c.args.self.now c.loop-level._level c.args.depth c.args.a c.loop-level.x c.requires.depth_a.root c.loop-level.invariant.0 c.loop-level-test.true c.requires.depth_a.top).1)) refl

pub unwrap-over_y-requires : goal.unwrap-over_y-requires
unwrap-over_y-requires c =
    subst (λ o. IsSome o) (sym (c.parent-in-loop-level.ensures.parent ∙ (parent_some c.args.self.now c.loop-level._level c.args.depth c.args.b c.loop-level.y c.requires.depth_b.root c.loop-level.invariant.1 c.loop-level-test.true c.requires.depth_b.top).1)) refl

pub loop-level-preserved : goal.loop-level-preserved
loop-level-preserved c = (
  up_one c.args.self.now c.loop-level._level c.args.a c.loop-level.x _ c.loop-level.invariant.0 (sym c.parent.ensures.parent ∙ c.unwrap-over_x.ensures),
  up_one c.args.self.now c.loop-level._level c.args.b c.loop-level.y _ c.loop-level.invariant.1 (sym c.parent-in-loop-level.ensures.parent ∙ c.unwrap-over_y.ensures),
  parent_within c.args.self.now c.loop-level.x c.unwrap-over_x.result c.parent.ensures.forest (sym c.parent.ensures.parent ∙ c.unwrap-over_x.ensures),
  parent_within c.args.self.now c.loop-level.y c.unwrap-over_y.result c.parent.ensures.forest (sym c.parent-in-loop-level.ensures.parent ∙ c.unwrap-over_y.ensures),
  c.if-over_x-over_y.false,
)
