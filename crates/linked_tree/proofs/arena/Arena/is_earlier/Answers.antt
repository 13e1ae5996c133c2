use Rattle.linked_tree.proofs.WayLemmas.{earlier_if}
use Rattle.linked_tree.proofs.arena.Arena.is_earlier.Goals as goal

pub returns-then-is_some : goal.returns-then-is_some
returns-then-is_some c =
    earlier_if c.args.self.now c.args.x c.args.y c.parent.result c.is_behind.result c.parent.ensures.parent c.if-is_some.ensures c.requires.apart c.is_behind.ensures
