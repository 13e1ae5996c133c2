use Rattle.std.proofs.Common.{◌≡◌, ℕ, Option, None, ap, subst}
use Rattle.index_lists.specs.Side.{owner_at}
use Rattle.index_lists.specs.Threads.{Woven, both, item_at}
use Rattle.index_lists.proofs.ArenaLemmas.{free_place, arena_given}
use Rattle.index_lists.proofs.Threads.push_back.Goals as goal

pub push_back-requires-clause-place : goal.push_back-requires-clause-place
push_back-requires-clause-place c =
    (free_place c.self.inside.left c.self.inside.right c.self.inside.places c.self.invariant c.take-place.result c.take-place.ensures.was_free).0

pub push_back-requires-2-clause-place : goal.push_back-requires-2-clause-place
push_back-requires-2-clause-place c =
    (free_place c.self.inside.left c.self.inside.right c.self.inside.places c.self.invariant c.take-place.result c.take-place.ensures.was_free).1

pub push_back-requires-clause-free : goal.push_back-requires-clause-free
push_back-requires-clause-free c =
    (free_place c.self.inside.left c.self.inside.right c.self.inside.places c.self.invariant c.take-place.result c.take-place.ensures.was_free).2

pub push_back-requires-2-clause-free : goal.push_back-requires-2-clause-free
push_back-requires-2-clause-free c =
    (free_place c.self.inside.left c.self.inside.right c.self.inside.places c.self.invariant c.take-place.result c.take-place.ensures.was_free).3

pub invariant_of-self : goal.invariant_of-self
invariant_of-self c =
    arena_given c.self.inside.left c.self.inside.right c.self.inside.places c.self.invariant
    c.push_back.new.self c.push_back-2.new.self c.take-place.new.self c.args.left c.args.right c.take-place.result
    c.take-place.ensures.pool c.take-place.ensures.taken c.take-place.ensures.others c.take-place.ensures.count
    c.push_back.ensures.appends c.push_back-2.ensures.appends c.push_back.ensures.sound c.push_back-2.ensures.sound

pub returns-clause-fresh : goal.returns-clause-fresh
returns-clause-fresh c =
    let free = free_place c.self.inside.left c.self.inside.right c.self.inside.places c.self.invariant c.take-place.result c.take-place.ensures.was_free in
    subst (λ (t : Woven). item_at t c.take-place.result ≡ None) c.self.view_is
    (ap (λ (o : Option ℕ). both o (owner_at c.self.inside.right c.take-place.result)) free.2)
