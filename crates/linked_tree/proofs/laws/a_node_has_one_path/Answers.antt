use Rattle.linked_tree.proofs.PathLemmas.{one_path}
use Rattle.linked_tree.proofs.laws.a_node_has_one_path.Goals as goal

pub returns-clause-root : goal.returns-clause-root
returns-clause-root c = λ t r s n p q forest a b. (one_path t forest r s n p q a b).0

pub returns-clause-path : goal.returns-clause-path
returns-clause-path c = λ t r s n p q forest a b. (one_path t forest r s n p q a b).1
