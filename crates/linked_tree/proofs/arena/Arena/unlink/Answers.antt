use Rattle.std.proofs.Common.{refl, sym, ◌∙◌}
use Rattle.linked_tree.proofs.LinkLemmas.{rest_from, sound_forest}
use Rattle.linked_tree.proofs.NodeReads.{parent_within_told, previous_within, next_within, unlinked}
use Rattle.linked_tree.proofs.arena.Arena.unlink.Goals as goal

pub join-requires-clause-parent : goal.join-requires-clause-parent
join-requires-clause-parent c = parent_within_told c.self.inside.nodes c.args.self.now c.self.view_is c.self.invariant c.args.kid c.index-links.result.now c.index-links.ensures c.requires c.unwrap-parent.result (sym c.node.ensures ∙ c.unwrap-parent.ensures)

pub join-requires-clause-before : goal.join-requires-clause-before
join-requires-clause-before c = λ q e.
    previous_within c.self.inside.nodes c.args.self.now c.self.view_is c.self.invariant c.args.kid c.index-links.result.now c.index-links.ensures c.requires c.unwrap-parent.result q (sym c.node.ensures ∙ c.unwrap-parent.ensures) (sym c.node-2.ensures ∙ e)

pub join-requires-clause-after : goal.join-requires-clause-after
join-requires-clause-after c = λ q e.
    next_within c.self.inside.nodes c.args.self.now c.self.view_is c.self.invariant c.args.kid c.index-links.result.now c.index-links.ensures c.requires c.unwrap-parent.result q (sym c.node.ensures ∙ c.unwrap-parent.ensures) (sym c.node-3.ensures ∙ e)

pub invariant_of-self : goal.invariant_of-self
invariant_of-self c =
    (unlinked c.self.inside.nodes c.args.self.now c.self.view_is c.self.invariant c.args.kid c.index-links.result.now c.index-links.ensures c.requires
    c.join.new.self c.set_parent.new.self c.unwrap-parent.result c.node-2.result c.node-3.result (sym c.node.ensures ∙ c.unwrap-parent.ensures) c.node-2.ensures c.node-3.ensures
    (record { forward = c.join.ensures.forward; back = c.join.ensures.back; parents = c.join.ensures.parents; count = c.join.ensures.count })
    c.set_parent.ensures).sound

pub returns-clause-kids : goal.returns-clause-kids
returns-clause-kids c =
    (unlinked c.self.inside.nodes c.args.self.now c.self.view_is c.self.invariant c.args.kid c.index-links.result.now c.index-links.ensures c.requires
    c.join.new.self c.set_parent.new.self c.unwrap-parent.result c.node-2.result c.node-3.result (sym c.node.ensures ∙ c.unwrap-parent.ensures) c.node-2.ensures c.node-3.ensures
    (record { forward = c.join.ensures.forward; back = c.join.ensures.back; parents = c.join.ensures.parents; count = c.join.ensures.count })
    c.set_parent.ensures).kids

pub returns-clause-rest : goal.returns-clause-rest
returns-clause-rest c =
    rest_from c.args.self.now _ c.self.inside.nodes c.set_parent.new.self c.unwrap-parent.result c.args.kid c.self.view_is refl
    (unlinked c.self.inside.nodes c.args.self.now c.self.view_is c.self.invariant c.args.kid c.index-links.result.now c.index-links.ensures c.requires
    c.join.new.self c.set_parent.new.self c.unwrap-parent.result c.node-2.result c.node-3.result (sym c.node.ensures ∙ c.unwrap-parent.ensures) c.node-2.ensures c.node-3.ensures
    (record { forward = c.join.ensures.forward; back = c.join.ensures.back; parents = c.join.ensures.parents; count = c.join.ensures.count })
    c.set_parent.ensures).rest

pub returns-clause-forest : goal.returns-clause-forest
returns-clause-forest c =
    sound_forest c.set_parent.new.self
    (unlinked c.self.inside.nodes c.args.self.now c.self.view_is c.self.invariant c.args.kid c.index-links.result.now c.index-links.ensures c.requires
    c.join.new.self c.set_parent.new.self c.unwrap-parent.result c.node-2.result c.node-3.result (sym c.node.ensures ∙ c.unwrap-parent.ensures) c.node-2.ensures c.node-3.ensures
    (record { forward = c.join.ensures.forward; back = c.join.ensures.back; parents = c.join.ensures.parents; count = c.join.ensures.count })
    c.set_parent.ensures).sound
