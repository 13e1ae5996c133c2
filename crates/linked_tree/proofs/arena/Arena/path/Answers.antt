use Rattle.std.proofs.Common.{◌∙◌, ◌<◌, Some, sym, ap, arith, reverse, vec_len}
use Rattle.linked_tree.specs.Forest.{count, above}
use Rattle.linked_tree.specs.Paths.{follow}
use Rattle.linked_tree.proofs.WayLemmas.{level_within, up_one, path_more}
use Rattle.linked_tree.proofs.arena.Arena.path.Goals as goal

pub loop-parent-smaller : goal.loop-parent-smaller
loop-parent-smaller c =
    let lt : vec_len c.loop-parent.places < count c.args.self.now = level_within c.args.self.now (vec_len c.loop-parent.places) c.args.node c.loop-parent.at c.parent.ensures.forest c.requires c.loop-parent.invariant.1 in
    omega (arith, lt, c.in_ok-push.ensures.len)

pub loop-parent-preserved : goal.loop-parent-preserved
loop-parent-preserved c = (
  ap (λ xs. follow c.args.self.now (Some c.in-Some.parent) (reverse xs)) c.in_ok-push.ensures.items
      ∙ path_more c.args.self.now c.loop-parent.at c.args.node c.in-Some.parent c.place.result c.loop-parent.places.items c.loop-parent.invariant.0 c.place.ensures,
  ap (λ n. above c.args.self.now n c.args.node) c.in_ok-push.ensures.len
      ∙ up_one c.args.self.now (vec_len c.loop-parent.places) c.args.node c.loop-parent.at _ c.loop-parent.invariant.1 (sym c.in-Some.ensures.parent),
  c.in-Some.ensures.made,
)
