use Rattle.std.proofs.Common.{◌-◌, ◌≤◌, max}
use Rattle.index_lists.specs.Pool.{IsGrown, spare_of}
use Rattle.index_lists.proofs.pool.Pool.reserve.Given as goal

abbrev pub invariant-loop-self : goal.invariant-loop-self
invariant-loop-self l = record {
  grown : IsGrown l.initial.self l.self;
  few : spare_of l.self ≤ max l.numbers (spare_of l.initial.self);
}

abbrev pub decreases-loop-self : goal.decreases-loop-self
decreases-loop-self l = l.numbers - spare_of l.self
