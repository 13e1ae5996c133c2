use Rattle.std.proofs.Common.{◌≡◌, true, ap}
use Rattle.std.specs.Prelude.{is_some}
use Rattle.index_lists.specs.Side.{owner_at}
use Rattle.index_lists.specs.Arena.{IsArena}
use Rattle.index_lists.proofs.ArenaLemmas.{arena_freed}
use Rattle.index_lists.proofs.Threads.remove.Goals as goal

pub give_back-requires : goal.give_back-requires
give_back-requires c =
    let arena : IsArena c.self.inside.left c.self.inside.right c.self.inside.places = c.self.invariant in
    let linked : is_some (owner_at c.self.inside.right c.args.place) ≡ true = ap is_some c.unlink-right.ensures.list in
    arena.taken c.args.place linked

pub invariant_of-self : goal.invariant_of-self
invariant_of-self c =
    arena_freed c.self.inside.left c.self.inside.right c.self.inside.places c.self.invariant
    c.unlink-left.new.self c.unlink-right.new.self c.give_back.new.self c.unlink-left.result c.unlink-right.result c.args.place
    c.give_back.ensures.pool c.give_back.ensures.others c.give_back.ensures.count
    c.unlink-left.ensures.takes_out c.unlink-right.ensures.takes_out c.unlink-left.ensures.sound c.unlink-right.ensures.sound
