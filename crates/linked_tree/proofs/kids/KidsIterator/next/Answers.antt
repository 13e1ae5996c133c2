use Rattle.std.proofs.Common.{◌≡◌, ◌∷◌, rules}
use Rattle.linked_tree.specs.Forest.{kids_from}
use Rattle.linked_tree.proofs.KidLemmas.{kids_next}
use Rattle.linked_tree.proofs.kids.KidsIterator.next.Goals as goal

pub returns-clause-steps : goal.returns-clause-steps
returns-clause-steps c =
    kids_next c.self.inside.arena.now c.self.inside.at c.next-self-inside.result c.args.self.now c.in_ok-kid.kid
    c.next-self-inside.ensures.forest c.self.invariant c.self.view_is c.in_ok-kid.was c.next-self-inside.ensures.next c.next-self-inside.ensures.parent

pub returns-clause-goes : goal.returns-clause-goes
returns-clause-goes c =
    let step : c.args.self.now ≡ c.in_ok-kid.kid ∷ kids_from c.self.inside.arena.now c.next-self-inside.result =
    kids_next c.self.inside.arena.now c.self.inside.at c.next-self-inside.result c.args.self.now c.in_ok-kid.kid
    c.next-self-inside.ensures.forest c.self.invariant c.self.view_is c.in_ok-kid.was c.next-self-inside.ensures.next c.next-self-inside.ensures.parent in
    rw step (search rules)
