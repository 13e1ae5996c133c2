use Rattle.std.proofs.Common.{◌≡◌, ◌<◌, Some, sym, ◌∙◌}
use Rattle.linked_tree.specs.Forest.{count, parent_of}
use Rattle.linked_tree.proofs.NodeReads.{if_some, forest, last_kid, kid_made, last_told}
use Rattle.linked_tree.proofs.arena.Arena.last.Goals as goal

pub returns-clause-parent : goal.returns-clause-parent
returns-clause-parent c =
    if_some c.node.result (λ q. parent_of c.args.self.now q ≡ Some c.args.node) (λ q e.
    last_kid c.self.inside.nodes c.args.self.now c.self.view_is c.self.invariant c.args.node c.index.result.now c.index.ensures c.requires q (sym c.node.ensures ∙ e))

pub returns-clause-made : goal.returns-clause-made
returns-clause-made c =
    if_some c.node.result (λ q. q < count c.args.self.now) (λ q e.
    kid_made c.self.inside.nodes c.args.self.now c.self.view_is c.self.invariant q c.args.node
    (last_kid c.self.inside.nodes c.args.self.now c.self.view_is c.self.invariant c.args.node c.index.result.now c.index.ensures c.requires q (sym c.node.ensures ∙ e)))

pub returns-clause-forest : goal.returns-clause-forest
returns-clause-forest c = forest c.self.inside.nodes c.args.self.now c.self.view_is c.self.invariant

pub returns-clause-last : goal.returns-clause-last
returns-clause-last c =
    c.node.ensures ∙ last_told c.self.inside.nodes c.args.self.now c.self.view_is c.self.invariant c.args.node c.index.result.now c.index.ensures c.requires
