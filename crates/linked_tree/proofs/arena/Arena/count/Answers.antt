use Rattle.linked_tree.proofs.NodeReads.{forest}
use Rattle.linked_tree.proofs.arena.Arena.count.Goals as goal

pub returns-clause-forest : goal.returns-clause-forest
returns-clause-forest c = forest c.self.inside.nodes c.args.self.now c.self.view_is c.self.invariant
