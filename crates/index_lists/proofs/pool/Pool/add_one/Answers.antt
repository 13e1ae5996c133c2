use Rattle.std.proofs.Common.{rules, ◌≡◌, ◌+◌, ◌≤◌, [], ◌∷◌, ◌++◌, sym, ap, ◌∙◌, subst, length, arith}
use Rattle.index_lists.specs.Pool.{Pooled, IsPool, one_more}
use Rattle.index_lists.proofs.PoolLemmas.{spare_within, pool_more}
use Rattle.index_lists.proofs.pool.Pool.add_one.Goals as goal

pub overflow_sub-taken : goal.overflow_sub-taken
overflow_sub-taken c =
    let p : Pooled = record { free = c.self.inside.free.items; count = c.self.inside.count } in
    omega (arith, c.len.ensures, spare_within p c.self.invariant.0)

pub invariant_of-self-2 : goal.invariant_of-self-2
invariant_of-self-2 c =
    let p : Pooled = record { free = c.self.inside.free.items; count = c.self.inside.count } in
    let next : c.self.inside.count + 1 ≡ c.in_ok-next.next = search rules in
    let items : c.self.inside.free.items ++ c.self.inside.count ∷ [] ≡ c.push.new.self.items = sym (c.in_ok-push.ensures.items ∙ ap (λ xs. xs ++ c.self.inside.count ∷ []) c.in_ok-reserve.ensures.items) in
    let is : one_more p ≡ record { free = c.push.new.self.items; count = c.in_ok-next.next } = cc in
    let few : length c.self.inside.free.items ≤ c.self.inside.count = spare_within p c.self.invariant.0 in
    (subst IsPool is (pool_more p c.self.invariant.0), omega (arith, next, few, c.len.ensures, c.self.inside.free.ok.0, c.in_ok-reserve.ensures.ok, c.in_ok-reserve.ensures.len, c.push.ensures.capacity))

pub returns-clause-pool : goal.returns-clause-pool
returns-clause-pool c = (invariant_of-self-2 c).0
