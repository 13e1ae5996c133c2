-- Ways up: that they end, and how they change where a node gets a parent or loses it.
use Rattle.std.proofs.Common.{◌≡◌, ℕ, zero, suc, ◌+◌, ◌<◌, ◌≤◌, ◌∷◌, length, Option, Some, None, ◌⊎◌, inl, inr, refl, sym, ap, ◌∙◌, subst, arith}
use Rattle.std.proofs.lemmas.Bool.{cases_eq, cases_lt}
use Rattle.index_lists.specs.Lists.{times}
use Rattle.index_lists.specs.Rings.{walk}
use Rattle.index_lists.proofs.Times.{times_here, times_there, length_within}
use Rattle.linked_tree.specs.Forest.{climb}

pub climb-none : (o : ℕ → Option ℕ) (k : ℕ) → climb o k None ≡ None
climb-none o zero = refl
climb-none o (suc k) = refl

-- a climb on from where another ended
pub climb-climb : (o : ℕ → Option ℕ) (a b : ℕ) (x : Option ℕ) → climb o b (climb o a x) ≡ climb o (a + b) x
climb-climb o zero b x = ap (λ n. climb o n x) (let e : b ≡ 0 + b = omega arith in e)
climb-climb o (suc a) b None = climb-none o b ∙ sym (climb-none o (suc a + b))
climb-climb o (suc a) b (Some n) =
    let e : suc (a + b) ≡ suc a + b = omega arith in
    climb-climb o a b (o n) ∙ ap (λ m. climb o m (Some n)) e

-- ways up over parents that are equal at each node are equal
pub climb_same : (o o' : ℕ → Option ℕ) → ((n : ℕ) → o' n ≡ o n) → (k : ℕ) (x : Option ℕ) → climb o' k x ≡ climb o k x
climb_same o o' same zero x = refl
climb_same o o' same (suc k) None = refl
climb_same o o' same (suc k) (Some n) = ap (climb o' k) (same n) ∙ climb_same o o' same k (o n)

-- a way that ends in a node was at a node one level below
pub climb_back : (o : ℕ → Option ℕ) (k : ℕ) (x : Option ℕ) (q : ℕ) → climb o (suc k) x ≡ Some q → (m : ℕ) × (climb o k x ≡ Some m) × (o m ≡ Some q)
climb_back o k None q e = absurd (cc)
climb_back o zero (Some n) q e = (n, refl, e)
climb_back o (suc k) (Some n) q e = climb_back o k (o n) q e

-- and so at a node on each level below
pub climb_some : (o : ℕ → Option ℕ) (a b : ℕ) (x : Option ℕ) (q : ℕ) → climb o (a + b) x ≡ Some q → (m : ℕ) × (climb o a x ≡ Some m)
climb_some o a b x q e = some_of (climb o a x) (climb-climb o a b x ∙ e)
  where
    some_of : (y : Option ℕ) → climb o b y ≡ Some q → (m : ℕ) × (y ≡ Some m)
    some_of None e = absurd (let bad : None ≡ Some q = sym (climb-none o b) ∙ e in cc)
    some_of (Some m) e = (m, refl)

-- ---- a node gets a parent

module _ (o o' : ℕ → Option ℕ) (p l : ℕ) (own : o' p ≡ Some l) (others : (q : ℕ) → (q ≡ p → ⊥) → o' q ≡ o q) where
  -- a way that does not pass the node is as before
  same_apart : (j : ℕ) (x : Option ℕ) → ((i : ℕ) → climb o i x ≡ Some p → ⊥) → climb o' j x ≡ climb o j x
  same_apart zero x apart = refl
  same_apart (suc j) None apart = refl
  same_apart (suc j) (Some m) apart =
      ap (climb o' j) (others m (λ e. apart 0 (ap Some e))) ∙ same_apart j (o m) (λ i h. apart (suc i) h)

  module _ (apart : (i : ℕ) → climb o i (Some l) ≡ Some p → ⊥) where
    -- a way is as before, or passes the node and its new parent
    passes : (j : ℕ) (x : Option ℕ) (q : ℕ) → climb o' j x ≡ Some q → (climb o j x ≡ Some q) ⊎ ((i : ℕ) × (r : ℕ) × (climb o i x ≡ Some p) × (climb o r (Some l) ≡ Some q))
    passes zero x q e = inl e
    passes (suc j) None q e = absurd (cc)
    passes (suc j) (Some n) q e = elim (cases_eq n p) [
      | inl is ↦ inr (0, j, ap Some is, sym (same_apart j (Some l) apart) ∙ ap (climb o' j) (sym (ap o' is ∙ own)) ∙ e)
      | inr ne ↦ elim (passes j (o n) q (ap (climb o' j) (sym (others n ne)) ∙ e)) [
        | inl h ↦ inl h
        | inr h ↦ inr (suc h.0, h.1, h.2, h.3)
      ]
    ]

    pub no_ring_linked : ((n k : ℕ) → climb o (suc k) (Some n) ≡ Some n → ⊥) → (n k : ℕ) → climb o' (suc k) (Some n) ≡ Some n → ⊥
    no_ring_linked old n k e = elim (passes (suc k) (Some n) n e) [
      | inl h ↦ old n k h
      | inr h ↦ apart (h.1 + h.0) (sym (climb-climb o h.1 h.0 (Some l)) ∙ ap (climb o h.0) h.3 ∙ h.2)
    ]

-- ---- a node loses its parent

module _ (o o' : ℕ → Option ℕ) (p : ℕ) (free : o' p ≡ None) (others : (q : ℕ) → (q ≡ p → ⊥) → o' q ≡ o q) where
  was : (j : ℕ) (x : Option ℕ) (q : ℕ) → climb o' j x ≡ Some q → climb o j x ≡ Some q
  was zero x q e = e
  was (suc j) None q e = e
  was (suc j) (Some n) q e = elim (cases_eq n p) [
    | inl is ↦ absurd (let bad : None ≡ Some q = sym (ap (climb o' j) (ap o' is ∙ free) ∙ climb-none o' j) ∙ e in cc)
    | inr ne ↦ ap (climb o j) (sym (others n ne)) ∙ was j (o' n) q e
  ]

  pub no_ring_unlinked : ((n k : ℕ) → climb o (suc k) (Some n) ≡ Some n → ⊥) → (n k : ℕ) → climb o' (suc k) (Some n) ≡ Some n → ⊥
  no_ring_unlinked old n k e = old n k (was (suc k) (Some n) n e)

-- ---- how long a way is

module _ (o : ℕ → Option ℕ) (no_ring : (n k : ℕ) → climb o (suc k) (Some n) ≡ Some n → ⊥) where
  reached : (k : ℕ) (x : Option ℕ) (m : ℕ) → 1 ≤ times m (walk o k x) → (i : ℕ) × (climb o i x ≡ Some m)
  reached zero x m some = absurd (omega (arith, some))
  reached (suc k) None m some = absurd (omega (arith, some))
  reached (suc k) (Some n) m some = elim (cases_eq n m) [
    | inl e ↦ (0, ap Some e)
    | inr ne ↦
        let later : (i : ℕ) × (climb o i (o n) ≡ Some m) = reached k (o n) m (subst (λ c. 1 ≤ c) (times_there m n (walk o k (o n)) ne) some) in
        (suc later.0, later.1)
  ]

  walk_once : (k : ℕ) (x : Option ℕ) (m : ℕ) → times m (walk o k x) ≤ 1
  walk_once zero x m = omega arith
  walk_once (suc k) None m = omega arith
  walk_once (suc k) (Some n) m = elim (cases_eq n m) [
    | inl e ↦ subst (λ r. times r (n ∷ walk o k (o n)) ≤ 1) e (elim (cases_lt (times n (walk o k (o n))) 1) [
      | inl none ↦ let here : times n (n ∷ walk o k (o n)) ≡ times n (walk o k (o n)) + 1 = times_here n (walk o k (o n)) in omega (arith, here, none)
      | inr some ↦ absurd (let again : (i : ℕ) × (climb o i (o n) ≡ Some n) = reached k (o n) n some in no_ring n again.0 again.1)
    ])
    | inr ne ↦ subst (λ c. c ≤ 1) (sym (times_there m n (walk o k (o n)) ne)) (walk_once k (o n) m)
  ]

  walk_length : (k : ℕ) (x : Option ℕ) (q : ℕ) → climb o k x ≡ Some q → length (walk o (suc k) x) ≡ suc k
  walk_length zero None q e = absurd (cc)
  walk_length zero (Some n) q e = refl
  walk_length (suc k) None q e = absurd (cc)
  walk_length (suc k) (Some n) q e = ap suc (walk_length k (o n) q e)

  reached_within : (c : ℕ) → ((n m : ℕ) → o n ≡ Some m → m < c) → (i : ℕ) (x : Option ℕ) (m : ℕ) → ((n : ℕ) → x ≡ Some n → n < c) → climb o i x ≡ Some m → m < c
  reached_within c up zero x m in_x e = in_x m e
  reached_within c up (suc i) None m in_x e = absurd (cc)
  reached_within c up (suc i) (Some n) m in_x e = reached_within c up i (o n) m (up n) e

  -- where all parents are below c, there are fewer than c levels above a node
  pub climb_within : (c : ℕ) → ((n m : ℕ) → o n ≡ Some m → m < c) → (k n q : ℕ) → n < c → climb o k (Some n) ≡ Some q → k < c
  climb_within c up k n q made e =
      let few : length (walk o (suc k) (Some n)) ≤ c =
      length_within (walk o (suc k) (Some n)) c (walk_once (suc k) (Some n))
      (λ m some. let at : (i : ℕ) × (climb o i (Some n) ≡ Some m) = reached (suc k) (Some n) m some in
      reached_within c up at.0 (Some n) m (λ r is. subst (λ s. s < c) (let same : n ≡ r = cc in same) made) at.1) in
      let all : length (walk o (suc k) (Some n)) ≡ suc k = walk_length k (Some n) q e in
      omega (arith, few, all)

-- where all parents are below c, so are the nodes above one that is
pub climb_made : (o : ℕ → Option ℕ) (c : ℕ) → ((n m : ℕ) → o n ≡ Some m → m < c) → (k n q : ℕ) → n < c → climb o k (Some n) ≡ Some q → q < c
climb_made o c up zero n q made e = subst (λ r. r < c) (let same : n ≡ q = cc in same) made
climb_made o c up (suc k) n q made e =
    let at : (m : ℕ) × (climb o k (Some n) ≡ Some m) × (o m ≡ Some q) = climb_back o k (Some n) q e in
    up at.0 q at.2
