use Rattle.std.proofs.Common.{◌<◌, sym, ◌∙◌}
use Rattle.linked_tree.specs.Forest.{count}
use Rattle.linked_tree.proofs.NodeReads.{if_some, forest, parent_made}
use Rattle.linked_tree.proofs.arena.Arena.parent.Goals as goal

pub returns-clause-made : goal.returns-clause-made
returns-clause-made c =
    if_some c.node.result (λ q. q < count c.args.self.now) (λ q e.
    parent_made c.self.inside.nodes c.args.self.now c.self.view_is c.self.invariant c.args.node c.index.result.now c.index.ensures c.requires q (sym c.node.ensures ∙ e))

pub returns-clause-forest : goal.returns-clause-forest
returns-clause-forest c = forest c.self.inside.nodes c.args.self.now c.self.view_is c.self.invariant
