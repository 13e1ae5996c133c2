use Rattle.linked_tree.proofs.KidLemmas.{kid_within, parent_within, stands_once, owned_by}
use Rattle.linked_tree.proofs.laws.children_stand_once.Goals as goal

pub returns-clause-kid : goal.returns-clause-kid
returns-clause-kid c = kid_within

pub returns-clause-parent : goal.returns-clause-parent
returns-clause-parent c = parent_within

pub returns-clause-once : goal.returns-clause-once
returns-clause-once c = stands_once

pub returns-clause-other : goal.returns-clause-other
returns-clause-other c = owned_by
