use Rattle.std.proofs.Common.{◌∙◌, Some, refl, sym, ap, subst}
use Rattle.std.specs.Prelude.{IsSome}
use Rattle.linked_tree.specs.Forest.{IsSameBut}
use Rattle.linked_tree.proofs.KidLemmas.{kid_at, apart_kid, same_parent, linked_at}
use Rattle.linked_tree.proofs.arena.Arena.link_at.Goals as goal

pub link_after-requires-clause-sibling : goal.link_after-requires-clause-sibling
link_after-requires-clause-sibling c =
    subst (λ o. IsSome o) (sym (kid_at c.args.self.now c.args.parent c.in-Some.steps c.unwrap-sibling.result c.kid_at.ensures.forest (sym c.kid_at.ensures.kid ∙ c.unwrap-sibling.ensures))) refl

pub link_after-requires-clause-apart : goal.link_after-requires-clause-apart
link_after-requires-clause-apart c =
    apart_kid c.args.self.now c.args.node c.unwrap-sibling.result c.args.parent
    (kid_at c.args.self.now c.args.parent c.in-Some.steps c.unwrap-sibling.result c.kid_at.ensures.forest (sym c.kid_at.ensures.kid ∙ c.unwrap-sibling.ensures))
    c.requires.free c.requires.apart

pub returns-in-Some-clause-kids : goal.returns-in-Some-clause-kids
returns-in-Some-clause-kids c =
    linked_at c.args.self.now c.link_after.new.self c.args.parent c.unwrap-sibling.result c.link_after.result c.in-Some.steps c.args.place c.args.node
    c.kid_at.ensures.forest (sym c.kid_at.ensures.kid ∙ c.unwrap-sibling.ensures) c.link_after.ensures.found c.link_after.ensures.kids c.in-Some.ensures

pub returns-in-Some-clause-parent : goal.returns-in-Some-clause-parent
returns-in-Some-clause-parent c =
    c.link_after.ensures.parent ∙ ap Some
    (same_parent c.args.self.now c.link_after.new.self c.args.parent c.unwrap-sibling.result c.link_after.result c.in-Some.steps c.args.place c.args.node
    c.kid_at.ensures.forest (sym c.kid_at.ensures.kid ∙ c.unwrap-sibling.ensures) c.link_after.ensures.found)

pub returns-in-Some-clause-rest : goal.returns-in-Some-clause-rest
returns-in-Some-clause-rest c =
    subst (λ p. IsSameBut c.args.self.now c.link_after.new.self p c.args.node)
    (same_parent c.args.self.now c.link_after.new.self c.args.parent c.unwrap-sibling.result c.link_after.result c.in-Some.steps c.args.place c.args.node
    c.kid_at.ensures.forest (sym c.kid_at.ensures.kid ∙ c.unwrap-sibling.ensures) c.link_after.ensures.found)
    c.link_after.ensures.rest
