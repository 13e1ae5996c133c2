use Rattle.std.proofs.Common.{◌≡◌, ◌+◌, rules, arith}
use Rattle.index_lists.specs.Arena.{IsArena}
use Rattle.index_lists.proofs.ArenaLemmas.{arena_extended, arena_grown}
use Rattle.index_lists.proofs.Threads.reserve_items.Goals as goal

pub invariant_of-self-in_err-grow_places-2 : goal.invariant_of-self-in_err-grow_places-2
invariant_of-self-in_err-grow_places-2 c =
    arena_extended c.self.inside.left c.self.inside.right c.self.inside.places c.self.invariant c.grow_places.new.self c.grow_places-2.new.self
    c.grow_places.ensures.extends c.grow_places-2.ensures.extends c.grow_places.ensures.sound c.grow_places-2.ensures.sound

pub invariant_of-self-in_err-reserve : goal.invariant_of-self-in_err-reserve
invariant_of-self-in_err-reserve c =
    let wider : IsArena c.grow_places.new.self c.grow_places-2.new.self c.self.inside.places =
    arena_extended c.self.inside.left c.self.inside.right c.self.inside.places c.self.invariant c.grow_places.new.self c.grow_places-2.new.self
    c.grow_places.ensures.extends c.grow_places-2.ensures.extends c.grow_places.ensures.sound c.grow_places-2.ensures.sound in
    let sum : c.count.result + c.saturating_sub-missing.result ≡ c.in_ok-count.count = search rules in
    arena_grown c.grow_places.new.self c.grow_places-2.new.self c.self.inside.places wider c.reserve.new.self c.reserve.ensures.grown c.reserve.ensures.pool
    (omega (arith, sum, c.count.ensures.count, c.saturating_sub-missing.ensures, c.spare.ensures.spare, c.reserve.ensures.few, c.reserve.ensures.grown.spare, c.in_ok-grow_places.ensures.places))
    (omega (arith, sum, c.count.ensures.count, c.saturating_sub-missing.ensures, c.spare.ensures.spare, c.reserve.ensures.few, c.reserve.ensures.grown.spare, c.in_ok-grow_places-2.ensures.places))

pub invariant_of-self-2 : goal.invariant_of-self-2
invariant_of-self-2 c =
    let wider : IsArena c.grow_places.new.self c.grow_places-2.new.self c.self.inside.places =
    arena_extended c.self.inside.left c.self.inside.right c.self.inside.places c.self.invariant c.grow_places.new.self c.grow_places-2.new.self
    c.grow_places.ensures.extends c.grow_places-2.ensures.extends c.grow_places.ensures.sound c.grow_places-2.ensures.sound in
    let sum : c.count.result + c.saturating_sub-missing.result ≡ c.in_ok-count.count = search rules in
    arena_grown c.grow_places.new.self c.grow_places-2.new.self c.self.inside.places wider c.reserve.new.self c.reserve.ensures.grown c.reserve.ensures.pool
    (omega (arith, sum, c.count.ensures.count, c.saturating_sub-missing.ensures, c.spare.ensures.spare, c.reserve.ensures.few, c.reserve.ensures.grown.spare, c.in_ok-grow_places.ensures.places))
    (omega (arith, sum, c.count.ensures.count, c.saturating_sub-missing.ensures, c.spare.ensures.spare, c.reserve.ensures.few, c.reserve.ensures.grown.spare, c.in_ok-grow_places-2.ensures.places))
