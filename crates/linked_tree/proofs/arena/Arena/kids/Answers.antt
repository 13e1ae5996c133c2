use Rattle.linked_tree.proofs.KidLemmas.{few_to_come}
use Rattle.linked_tree.proofs.arena.Arena.kids.Goals as goal

pub returns-clause-few : goal.returns-clause-few
returns-clause-few c = few_to_come c.args.self.now c.args.node c.first.result c.from.result c.first.ensures.forest c.first.ensures.first c.from.ensures
