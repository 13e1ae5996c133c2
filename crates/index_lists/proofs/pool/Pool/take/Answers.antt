use Rattle.std.proofs.Common.{◌≡◌, ℕ, [], ◌∷◌, ◌++◌, Option, ap, ◌∙◌}
use Rattle.std.specs.Option.{option_to_list}
use Rattle.index_lists.specs.Pool.{Pooled}
use Rattle.index_lists.proofs.PoolLemmas.{take_taken, take_pool}
use Rattle.index_lists.proofs.pool.Pool.take.Goals as goal

pub invariant_of-self : goal.invariant_of-self
invariant_of-self c =
    let p : Pooled = record { free = c.self.inside.free.items; count = c.self.inside.count } in
    let is : c.self.inside.free.items ≡ c.pop.new.self.items ++ c.unwrap.result ∷ [] = c.pop.ensures.items ∙ ap (λ (o : Option ℕ). c.pop.new.self.items ++ option_to_list o) c.unwrap.ensures in
    (take_pool p c.pop.new.self.items c.unwrap.result c.self.invariant.0 is, rw c.pop.ensures.capacity c.self.invariant.1)

pub returns-clause-taken : goal.returns-clause-taken
returns-clause-taken c =
    let p : Pooled = record { free = c.self.inside.free.items; count = c.self.inside.count } in
    let is : c.self.inside.free.items ≡ c.pop.new.self.items ++ c.unwrap.result ∷ [] = c.pop.ensures.items ∙ ap (λ (o : Option ℕ). c.pop.new.self.items ++ option_to_list o) c.unwrap.ensures in
    take_taken p c.pop.new.self.items c.unwrap.result c.self.invariant.0 is

pub returns-clause-pool : goal.returns-clause-pool
returns-clause-pool c = (invariant_of-self c).0
