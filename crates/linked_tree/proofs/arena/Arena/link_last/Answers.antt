use Rattle.std.proofs.Common.{◌∙◌, ap}
use Rattle.linked_tree.specs.Forest.{kids_of}
use Rattle.linked_tree.specs.Links.{behind}
use Rattle.linked_tree.proofs.KidLemmas.{kid_once, behind-last}
use Rattle.linked_tree.proofs.arena.Arena.link_last.Goals as goal

pub returns-clause-kids : goal.returns-clause-kids
returns-clause-kids c =
    c.link_behind.ensures.kids
    ∙ ap (λ o. behind o c.args.node (kids_of c.args.self.now c.args.parent)) c.last-last.ensures.last
    ∙ behind-last c.args.node (kids_of c.args.self.now c.args.parent) (λ m. kid_once c.args.self.now m c.args.parent c.last-last.ensures.forest)
