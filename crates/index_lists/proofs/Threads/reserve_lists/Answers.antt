use Rattle.index_lists.proofs.ArenaLemmas.{arena_extended}
use Rattle.index_lists.proofs.Threads.reserve_lists.Goals as goal

pub invariant_of-self-in_err-grow_lists-2 : goal.invariant_of-self-in_err-grow_lists-2
invariant_of-self-in_err-grow_lists-2 c =
    arena_extended c.self.inside.left c.self.inside.right c.self.inside.places c.self.invariant c.grow_lists.new.self c.grow_lists-2.new.self
    c.grow_lists.ensures.extends c.grow_lists-2.ensures.extends c.grow_lists.ensures.sound c.grow_lists-2.ensures.sound

pub invariant_of-self-2 : goal.invariant_of-self-2
invariant_of-self-2 c =
    arena_extended c.self.inside.left c.self.inside.right c.self.inside.places c.self.invariant c.grow_lists.new.self c.grow_lists-2.new.self
    c.grow_lists.ensures.extends c.grow_lists-2.ensures.extends c.grow_lists.ensures.sound c.grow_lists-2.ensures.sound
