-- The entries that each seat owns.
use Rattle.std.proofs.Common.{◌≡◌, ◌≢◌, ℕ, suc, ◌+◌, ◌<◌, ◌≤◌, Bool, true, false, List, [], ◌∷◌, ◌++◌, length, nat_lt, eq-eqb, ne_eqb, lt-ltb, le-ltb, if◌then◌else◌, refl, sym, ap, subst, ◌∙◌, inl, inr, ⊎_elim, arith}
use mathlib.Core.Logic.{dite}
use native.Mathlib.Decide.{ℕ_discrete}
use Rattle.revision_lock.specs.Histories.{numbered_from, owned_from, put_in, merged, IsInOrderFrom, HasPlace, AreApart}
use Rattle.revision_lock.proofs.Lists.{given_over, given_over_here, given_over_else}

module _ {E : Type 0} where
  pub owned_yes : (owner : ℕ → ℕ) (me k : ℕ) (x : E) (xs : List E) → owner k ≡ me → owned_from owner me k (x ∷ xs) ≡ (k, x) ∷ owned_from owner me (suc k) xs
  owned_yes owner me k x xs e = ap (λ (b : Bool). if b then (k, x) ∷ owned_from owner me (suc k) xs else owned_from owner me (suc k) xs) (eq-eqb (owner k) me e)

  pub owned_no : (owner : ℕ → ℕ) (me k : ℕ) (x : E) (xs : List E) → owner k ≢ me → owned_from owner me k (x ∷ xs) ≡ owned_from owner me (suc k) xs
  owned_no owner me k x xs ne = ap (λ (b : Bool). if b then (k, x) ∷ owned_from owner me (suc k) xs else owned_from owner me (suc k) xs) (ne_eqb (owner k) me ne)

  -- owners that agree about `me` on the places of the entries give it the same
  pub owned_same : (f g : ℕ → ℕ) (me k : ℕ) (xs : List E) → ((p : ℕ) → k ≤ p → p < k + length xs → (f p ≡ me → g p ≡ me) × (g p ≡ me → f p ≡ me)) → owned_from f me k xs ≡ owned_from g me k xs
  owned_same f g me k [] agree = refl
  owned_same f g me k (x ∷ xs) agree =
      let rest : owned_from f me (suc k) xs ≡ owned_from g me (suc k) xs = owned_same f g me (suc k) xs (λ p low high. agree p (omega arith) (omega arith)) in
      let here = agree k (omega arith) (omega arith) in
      dite (ℕ_discrete (f k) me)
      (λ e. owned_yes f me k x xs e ∙ (ap (λ l. (k, x) ∷ l) rest ∙ sym (owned_yes g me k x xs (here.0 e))))
      (λ ne. owned_no f me k x xs ne ∙ (rest ∙ sym (owned_no g me k x xs (λ e. ne (here.1 e)))))

  pub owned-append : (f : ℕ → ℕ) (me k : ℕ) (xs ys : List E) → owned_from f me k (xs ++ ys) ≡ owned_from f me k xs ++ owned_from f me (k + length xs) ys
  owned-append f me k [] ys = ap (λ (n : ℕ). owned_from f me n ys) (omega arith)
  owned-append f me k (x ∷ xs) ys =
      let rest : owned_from f me (suc k) (xs ++ ys) ≡ owned_from f me (suc k) xs ++ owned_from f me (k + length (x ∷ xs)) ys = owned-append f me (suc k) xs ys ∙ ap (λ (n : ℕ). owned_from f me (suc k) xs ++ owned_from f me n ys) (omega arith) in
      dite (ℕ_discrete (f k) me)
      (λ e. owned_yes f me k x (xs ++ ys) e ∙ (ap (λ l. (k, x) ∷ l) rest ∙ ap (λ l. l ++ owned_from f me (k + length (x ∷ xs)) ys) (sym (owned_yes f me k x xs e))))
      (λ ne. owned_no f me k x (xs ++ ys) ne ∙ (rest ∙ ap (λ l. l ++ owned_from f me (k + length (x ∷ xs)) ys) (sym (owned_no f me k x xs ne))))

  pub owned_none : (f : ℕ → ℕ) (me k : ℕ) (xs : List E) → ((p : ℕ) → k ≤ p → p < k + length xs → f p ≢ me) → owned_from f me k xs ≡ []
  owned_none f me k [] none = refl
  owned_none f me k (x ∷ xs) none = owned_no f me k x xs (none k (omega arith) (omega arith)) ∙ owned_none f me (suc k) xs (λ p low high. none p (omega arith) (omega arith))

  pub owned_all : (f : ℕ → ℕ) (me k : ℕ) (xs : List E) → ((p : ℕ) → k ≤ p → p < k + length xs → f p ≡ me) → owned_from f me k xs ≡ numbered_from k xs
  owned_all f me k [] all = refl
  owned_all f me k (x ∷ xs) all = owned_yes f me k x xs (all k (omega arith) (omega arith)) ∙ ap (λ l. (k, x) ∷ l) (owned_all f me (suc k) xs (λ p low high. all p (omega arith) (omega arith)))

  -- who owns nothing is no owner
  pub no_owner : (f : ℕ → ℕ) (me k : ℕ) (xs : List E) → owned_from f me k xs ≡ [] → (p : ℕ) → k ≤ p → p < k + length xs → f p ≢ me
  no_owner f me k [] nothing p low high = absurd (omega arith)
  no_owner f me k (x ∷ xs) nothing p low high =
      dite (ℕ_discrete (f k) me)
      (λ e. absurd (cc (nothing, owned_yes f me k x xs e)))
      (λ ne. dite (ℕ_discrete p k)
      (λ here e'. ne (ap f (sym here) ∙ e'))
      (λ later. no_owner f me (suc k) xs (sym (owned_no f me k x xs ne) ∙ nothing) p (omega arith) (omega arith)))

  pub in_order_from : (j k : ℕ) (xs : List (ℕ × E)) → j ≤ k → IsInOrderFrom k xs → IsInOrderFrom j xs
  in_order_from j k [] le h = tt
  in_order_from j k (x ∷ xs) le h = let first : k ≤ x.0 = h.0 in (omega arith, h.1)

  pub owned_in_order : (f : ℕ → ℕ) (me k : ℕ) (xs : List E) → IsInOrderFrom k (owned_from f me k xs)
  owned_in_order f me k [] = tt
  owned_in_order f me k (x ∷ xs) =
      let rest : IsInOrderFrom (suc k) (owned_from f me (suc k) xs) = owned_in_order f me (suc k) xs in
      dite (ℕ_discrete (f k) me)
      (λ e. subst (λ l. IsInOrderFrom k l) (sym (owned_yes f me k x xs e)) (omega arith, rest))
      (λ ne. subst (λ l. IsInOrderFrom k l) (sym (owned_no f me k x xs ne)) (in_order_from k (suc k) (owned_from f me (suc k) xs) (omega arith) rest))

  put_first : (k : ℕ) (x : E) (xs : List (ℕ × E)) → IsInOrderFrom (suc k) xs → put_in (k, x) xs ≡ (k, x) ∷ xs
  put_first k x [] h = refl
  put_first k x (y ∷ ys) h = let later : suc k ≤ y.0 = h.0 in ap (λ (b : Bool). if b then (k, x) ∷ (y ∷ ys) else y ∷ put_in (k, x) ys) (lt-ltb k y.0 (omega arith))

  put_later : (k : ℕ) (x : E) (y : ℕ × E) (xs : List (ℕ × E)) → k < y.0 → put_in y ((k, x) ∷ xs) ≡ (k, x) ∷ put_in y xs
  put_later k x y xs later = ap (λ (b : Bool). if b then y ∷ ((k, x) ∷ xs) else (k, x) ∷ put_in y xs) (le-ltb y.0 k (omega arith))

  merged_first : (k : ℕ) (x : E) (xs ys : List (ℕ × E)) → IsInOrderFrom (suc k) ys → merged ((k, x) ∷ xs) ys ≡ (k, x) ∷ merged xs ys
  merged_first k x xs [] h = refl
  merged_first k x xs (y ∷ ys) h =
      let later : suc k ≤ y.0 = h.0 in
      ap (λ l. put_in y l) (merged_first k x xs ys (in_order_from (suc k) (suc y.0) ys (omega arith) h.1)) ∙ put_later k x y (merged xs ys) (omega arith)

  -- what two seats own is what one of them owns once the other's entries are given over to it
  pub merged_owned : (f : ℕ → ℕ) (i j k : ℕ) (xs : List E) → i ≢ j → merged (owned_from f i k xs) (owned_from f j k xs) ≡ owned_from (given_over j i f) i k xs
  merged_owned f i j k [] apart = refl
  merged_owned f i j k (x ∷ xs) apart =
      let g = given_over j i f in
      let rest : merged (owned_from f i (suc k) xs) (owned_from f j (suc k) xs) ≡ owned_from g i (suc k) xs = merged_owned f i j (suc k) xs apart in
      dite (ℕ_discrete (f k) i)
      (λ mine. let not_theirs : f k ≢ j = λ e. apart (sym mine ∙ e) in
      (λ n. merged (owned_yes f i k x xs mine n) (owned_no f j k x xs not_theirs n))
      ∙ (merged_first k x (owned_from f i (suc k) xs) (owned_from f j (suc k) xs) (owned_in_order f j (suc k) xs)
      ∙ (ap (λ l. (k, x) ∷ l) rest ∙ sym (owned_yes g i k x xs (given_over_else j i f k not_theirs ∙ mine)))))
      (λ not_mine. dite (ℕ_discrete (f k) j)
      (λ theirs.
      (λ n. merged (owned_no f i k x xs not_mine n) (owned_yes f j k x xs theirs n))
      ∙ (ap (λ l. put_in (k, x) l) rest
      ∙ (put_first k x (owned_from g i (suc k) xs) (owned_in_order g i (suc k) xs) ∙ sym (owned_yes g i k x xs (given_over_here j i f k theirs)))))
      (λ not_theirs.
      (λ n. merged (owned_no f i k x xs not_mine n) (owned_no f j k x xs not_theirs n))
      ∙ (rest ∙ sym (owned_no g i k x xs (λ e. not_mine (sym (given_over_else j i f k not_theirs) ∙ e))))))

  -- where the entries of both lists are in order, no place stands in both
  order_bound : (k p : ℕ) (xs : List (ℕ × E)) → IsInOrderFrom k xs → HasPlace p xs → k ≤ p
  order_bound k p [] h at = absurd at
  order_bound k p (x ∷ xs) h at =
      let first : k ≤ x.0 = h.0 in
      ⊎_elim (λ (here : p ≡ x.0). let low : k ≤ p = omega arith in low) (λ (there : HasPlace p xs). let low = order_bound (suc x.0) p xs h.1 there in omega arith) at

  has-put_in : (p : ℕ) (y : ℕ × E) (xs : List (ℕ × E)) → HasPlace p xs → HasPlace p (put_in y xs)
  has-put_in p y [] at = absurd at
  has-put_in p y (x ∷ xs) at = by (nat_lt y.0 x.0) (λ there. has-put_in p y xs there)
    where
      by : (b : Bool) → (HasPlace p xs → HasPlace p (put_in y xs)) → HasPlace p (if b then y ∷ (x ∷ xs) else x ∷ put_in y xs)
      by true rest = inr at
      by false rest = ⊎_elim (λ (here : p ≡ x.0). inl here) (λ (there : HasPlace p xs). inr (rest there)) at

  was_put_in : (y : ℕ × E) (xs : List (ℕ × E)) → HasPlace y.0 (put_in y xs)
  was_put_in y [] = inl refl
  was_put_in y (x ∷ xs) = by (nat_lt y.0 x.0) (was_put_in y xs)
    where
      by : (b : Bool) → HasPlace y.0 (put_in y xs) → HasPlace y.0 (if b then y ∷ (x ∷ xs) else x ∷ put_in y xs)
      by true rest = inl refl
      by false rest = inr rest

  in_order_before : (k : ℕ) (y : ℕ × E) (xs : List (ℕ × E)) → IsInOrderFrom k (put_in y xs) → (HasPlace y.0 xs → ⊥) × IsInOrderFrom k xs
  in_order_before k y [] h = ((λ at. at), tt)
  in_order_before k y (x ∷ xs) h = by (nat_lt y.0 x.0) (λ in_order. in_order_before (suc x.0) y xs in_order) h
    where
      by : (b : Bool) → (IsInOrderFrom (suc x.0) (put_in y xs) → (HasPlace y.0 xs → ⊥) × IsInOrderFrom (suc x.0) xs) → IsInOrderFrom k (if b then y ∷ (x ∷ xs) else x ∷ put_in y xs)
          → (HasPlace y.0 (x ∷ xs) → ⊥) × IsInOrderFrom k (x ∷ xs)
      by true before h = let low : k ≤ y.0 = h.0 in let next : suc y.0 ≤ x.0 = h.1.0 in (
        (λ at. let bound = order_bound (suc y.0) y.0 (x ∷ xs) h.1 at in omega arith),
        (omega arith, h.1.1),
      )
      by false before h = let rest = before h.1 in let later = order_bound (suc x.0) y.0 (put_in y xs) h.1 (was_put_in y xs) in (
        (λ at. ⊎_elim (λ (here : y.0 ≡ x.0). let none : ⊥ = omega arith in none) (λ (there : HasPlace y.0 xs). rest.0 there) at),
        (h.0, rest.1),
      )

  has-merged : (p : ℕ) (xs ys : List (ℕ × E)) → HasPlace p xs → HasPlace p (merged xs ys)
  has-merged p xs [] at = at
  has-merged p xs (y ∷ ys) at = has-put_in p y (merged xs ys) (has-merged p xs ys at)

  pub apart : (k : ℕ) (xs ys : List (ℕ × E)) → IsInOrderFrom k (merged xs ys) → AreApart xs ys
  apart k xs [] h p at at' = at'
  apart k xs (y ∷ ys) h p at at' =
      let before = in_order_before k y (merged xs ys) h in
      ⊎_elim
      (λ (here : p ≡ y.0). before.0 (subst (λ (n : ℕ). HasPlace n (merged xs ys)) here (has-merged p xs ys at)))
      (λ (there : HasPlace p ys). apart k xs ys before.1 p at there)
      at'
