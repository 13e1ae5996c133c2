-- Sums over a list, beginnings of lists, and a function with one value changed.
use Rattle.std.proofs.Common.{◌≡◌, ◌≢◌, ◌⊎◌, ℕ, zero, suc, ◌+◌, ◌<◌, ◌≤◌, Bool, true, false, List, [], ◌∷◌, ◌++◌, length, set, sum_by, nat_eq, nat_lt, eq-eqb, ne_eqb, lt-ltb, le-ltb, if◌then◌else◌, refl, sym, ap, subst, ◌∙◌, inl, inr, ⊎_elim, arith, append_assoc}
use Rattle.std.proofs.lemmas.Bool.{cases_lt}
use Rattle.std.proofs.lemmas.List.{append-nil}
use Rattle.std.proofs.lemmas.List.Sums.{sum_by-cons}
use mathlib.Core.Option.{some, some-ne-none, some-injective}
use mathlib.Core.List.{IsPrefix}
use lib.ListN.{get_elem?}
use Rattle.revision_lock.specs.Histories.{longer, shorter}

module _ {X : Type 0} where
  pub sum_set : (f : X → ℕ) (xs : List X) (i : ℕ) (v w : X) → get_elem? xs i ≡ some v → sum_by f (set xs i w) + f v ≡ sum_by f xs + f w
  sum_set f [] i v w at = absurd (some-ne-none v (sym at))
  sum_set f (x ∷ xs) zero v w at = let e : f x ≡ f v = ap f (some-injective x v at) in omega (arith, sum_by-cons f w xs, sum_by-cons f x xs)
  sum_set f (x ∷ xs) (suc i) v w at = omega (arith, sum_by-cons f x (set xs i w), sum_by-cons f x xs, sum_set f xs i v w at)

  pub one_le : (g : X → ℕ) (xs : List X) (i : ℕ) (u : X) → get_elem? xs i ≡ some u → g u ≤ sum_by g xs
  one_le g [] i u at = absurd (some-ne-none u (sym at))
  one_le g (x ∷ xs) zero u at = let e : g x ≡ g u = ap g (some-injective x u at) in omega (arith, sum_by-cons g x xs)
  one_le g (x ∷ xs) (suc i) u at = omega (arith, sum_by-cons g x xs, one_le g xs i u at)

  pub two_le : (g : X → ℕ) (xs : List X) (i j : ℕ) (u v : X) → i ≢ j → get_elem? xs i ≡ some u → get_elem? xs j ≡ some v → g u + g v ≤ sum_by g xs
  two_le g [] i j u v apart at at' = absurd (some-ne-none u (sym at))
  two_le g (x ∷ xs) zero zero u v apart at at' = absurd (apart refl)
  two_le g (x ∷ xs) zero (suc j) u v apart at at' =
      let e : g x ≡ g u = ap g (some-injective x u at) in omega (arith, sum_by-cons g x xs, one_le g xs j v at')
  two_le g (x ∷ xs) (suc i) zero u v apart at at' =
      let e : g x ≡ g v = ap g (some-injective x v at') in omega (arith, sum_by-cons g x xs, one_le g xs i u at)
  two_le g (x ∷ xs) (suc i) (suc j) u v apart at at' =
      omega (arith, sum_by-cons g x xs, two_le g xs i j u v (λ e. apart (ap suc e)) at at')

  pub sum_le : (f g : X → ℕ) (xs : List X) → ((i : ℕ) (u : X) → get_elem? xs i ≡ some u → f u ≤ g u) → sum_by f xs ≤ sum_by g xs
  sum_le f g [] each = omega arith
  sum_le f g (x ∷ xs) each = omega (arith, sum_by-cons f x xs, sum_by-cons g x xs, each 0 x refl, sum_le f g xs (λ i u at. each (suc i) u at))

  -- where f is no more than g of each, and as much less as one of them has, the sums differ by so much at least
  pub sum_le_at : (f g : X → ℕ) (xs : List X) (j : ℕ) (v : X) → ((i : ℕ) (u : X) → get_elem? xs i ≡ some u → f u ≤ g u) → get_elem? xs j ≡ some v
      → sum_by f xs + g v ≤ sum_by g xs + f v
  sum_le_at f g [] j v each at = absurd (some-ne-none v (sym at))
  sum_le_at f g (x ∷ xs) zero v each at =
      let e : f x ≡ f v = ap f (some-injective x v at) in let e' : g x ≡ g v = ap g (some-injective x v at) in
      omega (arith, sum_by-cons f x xs, sum_by-cons g x xs, sum_le f g xs (λ i u a. each (suc i) u a))
  sum_le_at f g (x ∷ xs) (suc j) v each at =
      omega (arith, sum_by-cons f x xs, sum_by-cons g x xs, each 0 x refl, sum_le_at f g xs j v (λ i u a. each (suc i) u a) at)

  pub at_inside : (xs : List X) (i : ℕ) (u : X) → get_elem? xs i ≡ some u → i < length xs
  at_inside [] i u at = absurd (some-ne-none u (sym at))
  at_inside (x ∷ xs) zero u at = omega arith
  at_inside (x ∷ xs) (suc i) u at = omega (arith, at_inside xs i u at)

  pub at_exists : (xs : List X) (i : ℕ) → i < length xs → (u : X) × (get_elem? xs i ≡ some u)
  at_exists [] i inside = absurd (omega arith)
  at_exists (x ∷ xs) zero inside = (x, refl)
  at_exists (x ∷ xs) (suc i) inside = at_exists xs i (omega arith)

  pub at_one : (xs : List X) (i : ℕ) (u v : X) → get_elem? xs i ≡ some u → get_elem? xs i ≡ some v → u ≡ v
  at_one xs i u v at at' = some-injective u v (sym at ∙ at')

  pub at_grown : (xs : List X) (x u : X) (i : ℕ) → get_elem? (xs ++ x ∷ []) i ≡ some u → (get_elem? xs i ≡ some u) ⊎ ((i ≡ length xs) × (x ≡ u))
  at_grown [] x u zero at = inr (refl, some-injective x u at)
  at_grown [] x u (suc i) at = absurd (some-ne-none u (sym at))
  at_grown (y ∷ xs) x u zero at = inl at
  at_grown (y ∷ xs) x u (suc i) at = ⊎_elim (λ h. inl h) (λ (h : (i ≡ length xs) × (x ≡ u)). inr (ap suc h.0, h.1)) (at_grown xs x u i at)

  pub prefix_self : (xs : List X) → IsPrefix xs xs
  prefix_self xs = ([], append-nil xs)

  pub prefix_nil : (xs : List X) → IsPrefix [] xs
  prefix_nil xs = (xs, refl)

  pub prefix_grown : (xs ys zs : List X) → IsPrefix xs ys → IsPrefix xs (ys ++ zs)
  prefix_grown xs ys zs p = (p.0 ++ zs, sym (append_assoc xs p.0 zs) ∙ ap (λ w. w ++ zs) p.1)

  pub prefix_longer : (xs ys log : List X) → IsPrefix xs log → IsPrefix ys log → IsPrefix (longer xs ys) log
  prefix_longer xs ys log p q = by (nat_lt (length xs) (length ys))
    where
      by : (b : Bool) → IsPrefix (if b then ys else xs) log
      by true = q
      by false = p

  -- of two beginnings of one list, the one that is no longer is a beginning of the other
  pub prefix_of_two : (xs ys log : List X) → IsPrefix xs log → IsPrefix ys log → length xs ≤ length ys → IsPrefix xs ys
  prefix_of_two [] ys log p q le = prefix_nil ys
  prefix_of_two (x ∷ xs) [] log p q le = absurd (omega arith)
  prefix_of_two (x ∷ xs) (y ∷ ys) log p q le =
      let both : x ∷ (xs ++ p.0) ≡ y ∷ (ys ++ q.0) = p.1 ∙ sym q.1 in
      let heads : x ≡ y = cc in
      let tails : xs ++ p.0 ≡ ys ++ q.0 = cc in
      let rest = prefix_of_two xs ys (ys ++ q.0) (p.0, tails) (q.0, refl) (omega arith) in
      (rest.0, (λ i. heads i ∷ rest.1 i))

  pub prefix_shorter : (xs ys log : List X) → IsPrefix xs log → IsPrefix ys log → IsPrefix (shorter xs ys) (longer xs ys)
  prefix_shorter xs ys log p q = ⊎_elim
      (λ (less : length xs < length ys). by true (lt-ltb (length xs) (length ys) less) (prefix_of_two xs ys log p q (omega arith)))
      (λ (more : length ys ≤ length xs). by false (le-ltb (length xs) (length ys) more) (prefix_of_two ys xs log q p more))
      (cases_lt (length xs) (length ys))
    where
      by : (b : Bool) → nat_lt (length xs) (length ys) ≡ b → IsPrefix (if b then xs else ys) (if b then ys else xs) → IsPrefix (shorter xs ys) (longer xs ys)
      by b e h = subst (λ (c : Bool). IsPrefix (if c then xs else ys) (if c then ys else xs)) (sym e) h

  -- so both are beginnings of the longer one
  both_fronts : (xs ys : List X) → IsPrefix (shorter xs ys) (longer xs ys) → IsPrefix xs (longer xs ys) × IsPrefix ys (longer xs ys)
  both_fronts xs ys p = by (nat_lt (length xs) (length ys)) p
    where
      by : (b : Bool) → IsPrefix (if b then xs else ys) (if b then ys else xs) → IsPrefix xs (if b then ys else xs) × IsPrefix ys (if b then ys else xs)
      by true h = (h, prefix_self ys)
      by false h = (prefix_self xs, h)

  -- the same of what was met and seen in a join, and is seen now
  pub met_fronts : (mine theirs met seen now : List X) → met ≡ shorter mine theirs → seen ≡ longer mine theirs → now ≡ seen → IsPrefix met seen → IsPrefix mine now × IsPrefix theirs now
  met_fronts mine theirs met seen now m s n p =
      let joined : IsPrefix (shorter mine theirs) (longer mine theirs) = subst (λ l. IsPrefix (shorter mine theirs) l) s (subst (λ l. IsPrefix l seen) m p) in
      let fronts = both_fronts mine theirs joined in
      let is : longer mine theirs ≡ now = sym (n ∙ s) in
      (subst (λ l. IsPrefix mine l) is fronts.0, subst (λ l. IsPrefix theirs l) is fronts.1)

  pub last_same : (xs : List X) (a b : X) → xs ++ a ∷ [] ≡ xs ++ b ∷ [] → a ≡ b
  last_same [] a b e = cc e
  last_same (x ∷ xs) a b e = last_same xs a b (cc e)

-- f, with x at k
abbrev pub with_at : ℕ → ℕ → (ℕ → ℕ) → ℕ → ℕ
with_at k x f j = if nat_eq j k then x else f j

pub with_at_here : (k x : ℕ) (f : ℕ → ℕ) (j : ℕ) → j ≡ k → with_at k x f j ≡ x
with_at_here k x f j e = ap (λ (b : Bool). if b then x else f j) (eq-eqb j k e)

pub with_at_else : (k x : ℕ) (f : ℕ → ℕ) (j : ℕ) → j ≢ k → with_at k x f j ≡ f j
with_at_else k x f j ne = ap (λ (b : Bool). if b then x else f j) (ne_eqb j k ne)

-- f, with i where f has j
abbrev pub given_over : ℕ → ℕ → (ℕ → ℕ) → ℕ → ℕ
given_over j i f p = if nat_eq (f p) j then i else f p

pub given_over_here : (j i : ℕ) (f : ℕ → ℕ) (p : ℕ) → f p ≡ j → given_over j i f p ≡ i
given_over_here j i f p e = ap (λ (b : Bool). if b then i else f p) (eq-eqb (f p) j e)

pub given_over_else : (j i : ℕ) (f : ℕ → ℕ) (p : ℕ) → f p ≢ j → given_over j i f p ≡ f p
given_over_else j i f p ne = ap (λ (b : Bool). if b then i else f p) (ne_eqb (f p) j ne)
