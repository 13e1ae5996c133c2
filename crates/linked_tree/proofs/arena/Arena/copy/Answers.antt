use Rattle.std.proofs.Common.{◌∙◌}
use Rattle.linked_tree.proofs.Growth.{sound_kept}
use Rattle.linked_tree.proofs.NodeReads.{forest}
use Rattle.linked_tree.proofs.arena.Arena.copy.Goals as goal

pub returns-in_err-links-clause-forest : goal.returns-in_err-links-clause-forest
returns-in_err-links-clause-forest c = forest c.self.inside.nodes c.args.self.now c.self.view_is c.self.invariant

pub invariant_of-result : goal.invariant_of-result
invariant_of-result c =
    sound_kept c.self.inside.nodes (record { links = c.in_ok-links.links }) c.self.invariant (c.in_ok-links.ensures.items ∙ c.as_slice.ensures.value)

pub returns-clause-forest : goal.returns-clause-forest
returns-clause-forest c = forest c.self.inside.nodes c.args.self.now c.self.view_is c.self.invariant
