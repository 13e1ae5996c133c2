use Rattle.std.proofs.Common.{◌≡◌, ◌<◌, sym, ◌∙◌}
use Rattle.index_lists.specs.Lists.{place_after}
use Rattle.linked_tree.specs.Forest.{count, parent_of, kids_of}
use Rattle.linked_tree.proofs.NodeReads.{if_some, some_of, forest, next_told, next_kid, kid_made}
use Rattle.linked_tree.proofs.arena.Arena.next.Goals as goal

pub returns-clause-next : goal.returns-clause-next
returns-clause-next c =
    if_some (parent_of c.args.self.now c.args.kid) (λ p. c.node.result ≡ place_after c.args.kid (kids_of c.args.self.now p)) (λ p own.
    c.node.ensures ∙ next_told c.self.inside.nodes c.args.self.now c.self.view_is c.self.invariant c.args.kid c.index.result.now c.index.ensures p own)

pub returns-clause-parent : goal.returns-clause-parent
returns-clause-parent c =
    let own = some_of (parent_of c.args.self.now c.args.kid) c.requires in
    if_some c.node.result (λ q. parent_of c.args.self.now q ≡ parent_of c.args.self.now c.args.kid) (λ q e.
    next_kid c.self.inside.nodes c.args.self.now c.self.view_is c.self.invariant c.args.kid c.index.result.now c.index.ensures own.0 own.1 q (sym c.node.ensures ∙ e) ∙ sym own.1)

pub returns-clause-made : goal.returns-clause-made
returns-clause-made c =
    let own = some_of (parent_of c.args.self.now c.args.kid) c.requires in
    if_some c.node.result (λ q. q < count c.args.self.now) (λ q e.
    kid_made c.self.inside.nodes c.args.self.now c.self.view_is c.self.invariant q own.0
    (next_kid c.self.inside.nodes c.args.self.now c.self.view_is c.self.invariant c.args.kid c.index.result.now c.index.ensures own.0 own.1 q (sym c.node.ensures ∙ e)))

pub returns-clause-forest : goal.returns-clause-forest
returns-clause-forest c = forest c.self.inside.nodes c.args.self.now c.self.view_is c.self.invariant
