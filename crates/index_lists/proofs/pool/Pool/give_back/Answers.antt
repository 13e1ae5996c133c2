use Rattle.std.proofs.Common.{◌≡◌, ◌+◌, ◌<◌, [], ◌∷◌, ◌++◌, length, length-append, sym, ap, ◌∙◌, subst, vec_len, vec_capacity, arith}
use Rattle.std.specs.Prelude.{is_ok}
use Rattle.std.proofs.lemmas.Bool.{cond-true}
use Rattle.index_lists.specs.Pool.{Pooled, IsTaken, spare_of}
use Rattle.index_lists.proofs.PoolLemmas.{spare_below, given_free, given_pool}
use Rattle.index_lists.proofs.pool.Pool.give_back.Goals as goal

pub invariant_of-self : goal.invariant_of-self
invariant_of-self c =
    let p : Pooled = record { free = c.self.inside.free.items; count = c.self.inside.count } in
    let taken : IsTaken p c.args.number = subst (λ (q : Pooled). IsTaken q c.args.number) (sym c.self.view_is) c.requires in
    let fits : vec_len c.self.inside.free < vec_capacity c.self.inside.free = omega (arith, spare_below p c.self.invariant.0 c.args.number taken, c.self.invariant.1) in
    let items : c.push.new.self.items ≡ c.self.inside.free.items ++ c.args.number ∷ [] = c.push.ensures.items ∙ cond-true (is_ok c.push.result) _ _ (c.push.ensures.succeeds fits) in (
      rw items (given_pool p c.args.number c.self.invariant.0 taken),
      omega (arith, c.self.invariant.1, c.push.ensures.capacity),
    )

pub returns-clause-free : goal.returns-clause-free
returns-clause-free c =
    let p : Pooled = record { free = c.self.inside.free.items; count = c.self.inside.count } in
    let taken : IsTaken p c.args.number = subst (λ (q : Pooled). IsTaken q c.args.number) (sym c.self.view_is) c.requires in
    let fits : vec_len c.self.inside.free < vec_capacity c.self.inside.free = omega (arith, spare_below p c.self.invariant.0 c.args.number taken, c.self.invariant.1) in
    let items : c.push.new.self.items ≡ c.self.inside.free.items ++ c.args.number ∷ [] = c.push.ensures.items ∙ cond-true (is_ok c.push.result) _ _ (c.push.ensures.succeeds fits) in
    rw items (given_free p c.args.number c.self.invariant.0 taken)

pub returns-clause-spare : goal.returns-clause-spare
returns-clause-spare c =
    let p : Pooled = record { free = c.self.inside.free.items; count = c.self.inside.count } in
    let taken : IsTaken p c.args.number = subst (λ (q : Pooled). IsTaken q c.args.number) (sym c.self.view_is) c.requires in
    let fits : vec_len c.self.inside.free < vec_capacity c.self.inside.free = omega (arith, spare_below p c.self.invariant.0 c.args.number taken, c.self.invariant.1) in
    let items : c.push.new.self.items ≡ c.self.inside.free.items ++ c.args.number ∷ [] = c.push.ensures.items ∙ cond-true (is_ok c.push.result) _ _ (c.push.ensures.succeeds fits) in
    ap length items ∙ length-append c.self.inside.free.items (c.args.number ∷ []) ∙ ap (λ (q : Pooled). spare_of q + 1) c.self.view_is

pub returns-clause-pool : goal.returns-clause-pool
returns-clause-pool c = (invariant_of-self c).0
