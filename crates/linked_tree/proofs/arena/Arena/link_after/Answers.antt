use Rattle.std.proofs.Common.{◌∙◌, sym}
use Rattle.linked_tree.proofs.KidLemmas.{apart_from_kid}
use Rattle.linked_tree.proofs.arena.Arena.link_after.Goals as goal

pub link_behind-requires-clause-apart : goal.link_behind-requires-clause-apart
link_behind-requires-clause-apart c =
    apart_from_kid c.args.self.now c.args.node c.args.sibling c.unwrap-parent.result (sym c.parent.ensures.parent ∙ c.unwrap-parent.ensures) c.requires.apart
