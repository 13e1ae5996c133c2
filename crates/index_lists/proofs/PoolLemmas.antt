-- A pool stays one where a number is added, given out and taken back.
use Rattle.std.proofs.Common.{◌≡◌, ℕ, ◌+◌, ◌<◌, ◌≤◌, List, [], ◌∷◌, ◌++◌, length, inl, inr, refl, sym, ap, ◌∙◌, subst, le_trans, le_refl, length-append, arith}
use Rattle.std.proofs.lemmas.Bool.{cases_eq, cases_lt}
use Rattle.index_lists.specs.Lists.{times}
use Rattle.index_lists.specs.Pool.{Pooled, IsFree, IsTaken, IsPool, IsGrown, spare_of, one_more}
use Rattle.index_lists.proofs.Times.{times_here, times_there, times_push_same, times_push_other, length_within}

pub pool_empty : IsPool (record { free = []; count = 0 })
pool_empty = record { once = λ n. omega arith; within = λ n free. absurd (omega (arith, free)) }

-- ---- a number more

module _ (p : Pooled) (pool : IsPool p) where
  pub spare_within : spare_of p ≤ p.count
  spare_within = length_within p.free p.count pool.once pool.within

  -- while a number is taken, not all are free
  pub spare_below : (n : ℕ) → IsTaken p n → spare_of p < p.count
  spare_below n taken =
      let all : length (n ∷ p.free) ≤ p.count =
      length_within (n ∷ p.free) p.count
      (λ m. elim (cases_eq n m) [
        | inl e ↦ subst (λ k. times k (n ∷ p.free) ≤ 1) e (rw (times_here n p.free) (omega (arith, taken.1)))
        | inr ne ↦ rw (times_there m n p.free ne) (pool.once m)
      ])
      (λ m stands. elim (cases_eq n m) [
        | inl e ↦ subst (λ k. k < p.count) e taken.0
        | inr ne ↦ pool.within m (subst (λ k. 1 ≤ k) (times_there m n p.free ne) stands)
      ]) in
      omega (arith, all)

  not_yet : times p.count p.free ≡ 0
  not_yet = elim (cases_lt (times p.count p.free) 1) [
    | inl low ↦ omega (arith, low)
    | inr free ↦ absurd (let inside : p.count < p.count = pool.within p.count free in omega (arith, inside))
  ]

  pub pool_more : IsPool (one_more p)
  pool_more = record {
    once = λ n. elim (cases_eq p.count n) [
      | inl e ↦ subst (λ k. times k (p.free ++ p.count ∷ []) ≤ 1) e (rw (times_push_same p.count p.free) (omega (arith, not_yet)))
      | inr ne ↦ rw (times_push_other p.count n p.free ne) (pool.once n)
    ];
    within = λ n free. elim (cases_eq p.count n) [
      | inl e ↦ omega (arith, e)
      | inr ne ↦
          let inside : n < p.count = pool.within n (subst (λ k. 1 ≤ k) (times_push_other p.count n p.free ne) free) in
          omega (arith, inside)
    ];
  }

pub grown_none : (p : Pooled) → IsGrown p p
grown_none p = record {
  kept = λ n inside. refl;
  fresh = λ n past inside. absurd (omega (arith, past, inside));
  more = le_refl p.count;
  spare = refl;
}

pub grown_more : (old p : Pooled) → IsGrown old p → IsGrown old (one_more p)
grown_more old p grown = record {
  kept = λ n inside.
      let ne : p.count ≡ n → ⊥ = λ e. absurd (omega (arith, e, inside, grown.more)) in
      times_push_other p.count n p.free ne ∙ grown.kept n inside;
  fresh = λ n past inside. elim (cases_eq p.count n) [
    | inl e ↦ subst (λ k. 1 ≤ times k (p.free ++ p.count ∷ [])) e (rw (times_push_same p.count p.free) (omega arith))
    | inr ne ↦ subst (λ k. 1 ≤ k) (sym (times_push_other p.count n p.free ne)) (grown.fresh n past (omega (arith, inside, ne)))
  ];
  more = omega (arith, grown.more);
  spare = omega (arith, grown.spare, length-append p.free (p.count ∷ []));
}

-- ---- a number given out

module _ (p : Pooled) (rest : List ℕ) (n : ℕ) (pool : IsPool p) (is : p.free ≡ rest ++ n ∷ []) where
  was : times n p.free ≡ times n rest + 1
  was = ap (times n) is ∙ times_push_same n rest

  pub take_free : IsFree p n
  take_free = omega (arith, was)

  pub take_taken : IsTaken (record { free = rest; count = p.count }) n
  take_taken = (pool.within n take_free, let most : times n p.free ≤ 1 = pool.once n in omega (arith, was, most))

  pub take_others : (m : ℕ) → (m ≡ n → ⊥) → times m rest ≡ times m p.free
  take_others m ne = sym (ap (times m) is ∙ times_push_other n m rest (λ e. ne (sym e)))

  take_fewer : (m : ℕ) → times m rest ≤ times m p.free
  take_fewer m = elim (cases_eq m n) [
    | inl e ↦ subst (λ k. times k rest ≤ times k p.free) (sym e) (omega (arith, was))
    | inr ne ↦ subst (λ k. k ≤ times m p.free) (sym (take_others m ne)) (le_refl (times m p.free))
  ]

  pub take_pool : IsPool (record { free = rest; count = p.count })
  take_pool = record {
    once = λ m. le_trans (take_fewer m) (pool.once m);
    within = λ m free. pool.within m (le_trans free (take_fewer m));
  }

-- ---- a number taken back

module _ (p : Pooled) (n : ℕ) (pool : IsPool p) (taken : IsTaken p n) where
  pub given_free : IsFree (record { free = p.free ++ n ∷ []; count = p.count }) n
  given_free = rw (times_push_same n p.free) (omega arith)

  pub given_others : (m : ℕ) → (m ≡ n → ⊥) → times m (p.free ++ n ∷ []) ≡ times m p.free
  given_others m ne = times_push_other n m p.free (λ e. ne (sym e))

  pub given_pool : IsPool (record { free = p.free ++ n ∷ []; count = p.count })
  given_pool = record {
    once = λ m. elim (cases_eq n m) [
      | inl e ↦ subst (λ k. times k (p.free ++ n ∷ []) ≤ 1) e (rw (times_push_same n p.free) (omega (arith, taken.1)))
      | inr ne ↦ rw (times_push_other n m p.free ne) (pool.once m)
    ];
    within = λ m free. elim (cases_eq n m) [
      | inl e ↦ subst (λ k. k < p.count) e taken.0
      | inr ne ↦ pool.within m (subst (λ k. 1 ≤ k) (times_push_other n m p.free ne) free)
    ];
  }
