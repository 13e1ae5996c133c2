use Rattle.std.proofs.Common.{◌<◌, refl, sym, subst}
use Rattle.linked_tree.proofs.LinkLemmas.{child_within, parent_is, after_made, link_changes, rest_from, sound_forest}
use Rattle.linked_tree.proofs.arena.Arena.link_behind.Goals as goal

pub after-after-requires-clause-before : goal.after-after-requires-clause-before
after-after-requires-clause-before c = λ s e.
    child_within c.self.inside.nodes s c.args.parent (parent_is c.self.inside.nodes c.args.self.now c.self.view_is s _ (c.requires.before s e))

pub join-requires-clause-before : goal.join-requires-clause-before
join-requires-clause-before c = λ s e.
    child_within c.self.inside.nodes s c.args.parent (parent_is c.self.inside.nodes c.args.self.now c.self.view_is s _ (c.requires.before s e))

pub join-requires-2-clause-after : goal.join-requires-2-clause-after
join-requires-2-clause-after c = λ q e.
    subst (λ n. q < n) (sym c.join.ensures.count)
    (after_made c.self.inside.nodes c.join.new.self c.join.new.self c.join.new.self c.args.self.now c.self.view_is c.self.invariant
    c.args.parent c.args.node c.args.before c.after-after.result
    c.requires.parent c.requires.free c.requires.before c.requires.apart c.after-after.ensures q e)

pub invariant_of-self : goal.invariant_of-self
invariant_of-self c =
    (link_changes c.self.inside.nodes c.join.new.self c.join-2.new.self c.set_parent.new.self c.args.self.now c.self.view_is c.self.invariant
    c.args.parent c.args.node c.args.before c.after-after.result
    c.requires.parent c.requires.free c.requires.before c.requires.apart c.after-after.ensures
    (record { forward = c.join.ensures.forward; back = c.join.ensures.back; parents = c.join.ensures.parents; count = c.join.ensures.count })
    (record { forward = c.join-2.ensures.forward; back = c.join-2.ensures.back; parents = c.join-2.ensures.parents; count = c.join-2.ensures.count })
    c.set_parent.ensures).sound

pub returns-clause-kids : goal.returns-clause-kids
returns-clause-kids c =
    (link_changes c.self.inside.nodes c.join.new.self c.join-2.new.self c.set_parent.new.self c.args.self.now c.self.view_is c.self.invariant
    c.args.parent c.args.node c.args.before c.after-after.result
    c.requires.parent c.requires.free c.requires.before c.requires.apart c.after-after.ensures
    (record { forward = c.join.ensures.forward; back = c.join.ensures.back; parents = c.join.ensures.parents; count = c.join.ensures.count })
    (record { forward = c.join-2.ensures.forward; back = c.join-2.ensures.back; parents = c.join-2.ensures.parents; count = c.join-2.ensures.count })
    c.set_parent.ensures).kids

pub returns-clause-rest : goal.returns-clause-rest
returns-clause-rest c =
    rest_from c.args.self.now _ c.self.inside.nodes c.set_parent.new.self c.args.parent c.args.node c.self.view_is refl
    (link_changes c.self.inside.nodes c.join.new.self c.join-2.new.self c.set_parent.new.self c.args.self.now c.self.view_is c.self.invariant
    c.args.parent c.args.node c.args.before c.after-after.result
    c.requires.parent c.requires.free c.requires.before c.requires.apart c.after-after.ensures
    (record { forward = c.join.ensures.forward; back = c.join.ensures.back; parents = c.join.ensures.parents; count = c.join.ensures.count })
    (record { forward = c.join-2.ensures.forward; back = c.join-2.ensures.back; parents = c.join-2.ensures.parents; count = c.join-2.ensures.count })
    c.set_parent.ensures).rest

pub returns-clause-forest : goal.returns-clause-forest
returns-clause-forest c =
    sound_forest c.set_parent.new.self
    (link_changes c.self.inside.nodes c.join.new.self c.join-2.new.self c.set_parent.new.self c.args.self.now c.self.view_is c.self.invariant
    c.args.parent c.args.node c.args.before c.after-after.result
    c.requires.parent c.requires.free c.requires.before c.requires.apart c.after-after.ensures
    (record { forward = c.join.ensures.forward; back = c.join.ensures.back; parents = c.join.ensures.parents; count = c.join.ensures.count })
    (record { forward = c.join-2.ensures.forward; back = c.join-2.ensures.back; parents = c.join-2.ensures.parents; count = c.join-2.ensures.count })
    c.set_parent.ensures).sound
