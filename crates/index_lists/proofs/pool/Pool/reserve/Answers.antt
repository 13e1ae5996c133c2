use Rattle.std.proofs.Common.{◌-◌, ◌<◌, ◌≤◌, max, ap, sym, subst, [], ◌∷◌, length-append, arith}
use Rattle.index_lists.specs.Pool.{Pooled, IsGrown, spare_of}
use Rattle.index_lists.proofs.PoolLemmas.{grown_none, grown_more}
use Rattle.index_lists.proofs.pool.Pool.reserve.Goals as goal

pub loop-self-init : goal.loop-self-init
loop-self-init c = record { grown = grown_none c.args.self.now; few = omega arith }

pub loop-self-smaller : goal.loop-self-smaller
loop-self-smaller c = subst (λ (p : Pooled). c.args.numbers - spare_of p < c.args.numbers - spare_of c.loop-self.self) (sym c.in_ok-add_one.ensures.ok)
    (omega (arith, c.loop-self-test.true, c.len.ensures, ap spare_of c.self.view_is, length-append c.loop-self.self.free (c.loop-self.self.count ∷ [])))

pub loop-self-preserved : goal.loop-self-preserved
loop-self-preserved c = record {
  grown = subst (λ (p : Pooled). IsGrown c.args.self.now p) (sym c.in_ok-add_one.ensures.ok) (grown_more c.args.self.now c.loop-self.self c.loop-self.invariant.grown);
  few = subst (λ (p : Pooled). spare_of p ≤ max c.args.numbers (spare_of c.args.self.now)) (sym c.in_ok-add_one.ensures.ok)
      (omega (arith, c.loop-self-test.true, c.len.ensures, ap spare_of c.self.view_is, length-append c.loop-self.self.free (c.loop-self.self.count ∷ [])));
}
