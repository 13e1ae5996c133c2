use Rattle.linked_tree.proofs.WayLemmas.{leaf_apart}
use Rattle.linked_tree.proofs.laws.a_leaf_is_apart.Goals as goal

pub returns : goal.returns
returns c = leaf_apart
