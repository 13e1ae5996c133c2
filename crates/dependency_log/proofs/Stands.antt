-- What stands in a list that was mapped.
use Rattle.std.proofs.Common.{◌≡◌, ℕ, zero, suc, ◌+◌, ◌≤◌, ◌||◌, Bool, true, false, List, [], ◌∷◌, map, inl, inr, refl, sym, subst, le_trans, arith, true≢false}
use Rattle.std.specs.List.{list_any}
use Rattle.std.proofs.lemmas.Bool.{cases_eq}
use Rattle.index_lists.specs.Lists.{times}
use Rattle.index_lists.proofs.Times.{times_here, times_there, times_rest}

-- the first place of a list stands in it
pub stands_here : (p : ℕ) (xs : List ℕ) → 1 ≤ times p (p ∷ xs)
stands_here p xs = rw (times_here p xs) (omega arith)

pub stands_later : (p x : ℕ) (xs : List ℕ) → 1 ≤ times p xs → 1 ≤ times p (x ∷ xs)
stands_later p x xs stands = le_trans stands (times_rest p x xs)

pub map_same : {A : Type 0} (f g : ℕ → A) (xs : List ℕ) → ((p : ℕ) → 1 ≤ times p xs → f p ≡ g p) → map f xs ≡ map g xs
map_same f g [] same = refl
map_same f g (x ∷ xs) same =
    let here : f x ≡ g x = same x (stands_here x xs) in
    let rest : map f xs ≡ map g xs = map_same f g xs (λ p stands. same p (stands_later p x xs stands)) in
    λ i. here i ∷ rest i

-- what stands in the mapped list comes from a place, and the other way round
pub map_stands : (f : ℕ → ℕ) (y : ℕ) (xs : List ℕ) → 1 ≤ times y (map f xs) → (p : ℕ) × (1 ≤ times p xs) × (f p ≡ y)
map_stands f y [] stands = absurd (omega (arith, stands))
map_stands f y (x ∷ xs) stands = elim (cases_eq (f x) y) [
  | inl e ↦ (x, stands_here x xs, e)
  | inr ne ↦
      let rest : (p : ℕ) × (1 ≤ times p xs) × (f p ≡ y) = map_stands f y xs (subst (λ n. 1 ≤ n) (times_there y (f x) (map f xs) ne) stands) in
      (rest.0, stands_later rest.0 x xs rest.1, rest.2)
]

pub stands_map : (f : ℕ → ℕ) (p : ℕ) (xs : List ℕ) → 1 ≤ times p xs → 1 ≤ times (f p) (map f xs)
stands_map f p [] stands = absurd (omega (arith, stands))
stands_map f p (x ∷ xs) stands = elim (cases_eq x p) [
  | inl e ↦ subst (λ q. 1 ≤ times (f q) (map f (x ∷ xs))) e (stands_here (f x) (map f xs))
  | inr ne ↦ stands_later (f p) (f x) (map f xs) (stands_map f p xs (subst (λ n. 1 ≤ n) (times_there p x xs ne) stands))
]

-- what is mapped from one place alone stands once
pub map_once : (f : ℕ → ℕ) (y : ℕ) (xs : List ℕ) → ((p : ℕ) → times p xs ≤ 1)
    → ((p q : ℕ) → 1 ≤ times p xs → 1 ≤ times q xs → f p ≡ y → f q ≡ y → p ≡ q) → times y (map f xs) ≤ 1
map_once f y [] once one = omega arith
map_once f y (x ∷ xs) once one =
    let rest : times y (map f xs) ≤ 1 =
    map_once f y xs (λ p. le_trans (times_rest p x xs) (once p))
    (λ p q in_p in_q. one p q (stands_later p x xs in_p) (stands_later q x xs in_q)) in
    elim (cases_eq (f x) y) [
      | inl e ↦
          let here : times y (map f (x ∷ xs)) ≡ times y (map f xs) + 1 = subst (λ z. times z (f x ∷ map f xs) ≡ times z (map f xs) + 1) e (times_here (f x) (map f xs)) in
          let none : times y (map f xs) ≤ 0 = at_most (times y (map f xs)) (λ some.
          let other : (p : ℕ) × (1 ≤ times p xs) × (f p ≡ y) = map_stands f y xs some in
          let same : x ≡ other.0 = one x other.0 (stands_here x xs) (stands_later other.0 x xs other.1) e other.2 in
          let twice : 1 ≤ times x xs = subst (λ q. 1 ≤ times q xs) (sym same) other.1 in
          let most : times x (x ∷ xs) ≤ 1 = once x in
          let count : times x (x ∷ xs) ≡ times x xs + 1 = times_here x xs in
          absurd (omega (arith, twice, most, count))) in
          omega (arith, here, none)
      | inr ne ↦ subst (λ n. n ≤ 1) (sym (times_there y (f x) (map f xs) ne)) rest
    ]
  where
    at_most : (n : ℕ) → (1 ≤ n → ⊥) → n ≤ 0
    at_most zero no_more = omega arith
    at_most (suc n) no_more = absurd (no_more (omega arith))

-- a test that passes on the mapped list passes at a place, and the other way round
pub any_stands : {A : Type 0} (test : A → Bool) (f : ℕ → A) (xs : List ℕ) → list_any test (map f xs) ≡ true → (p : ℕ) × (1 ≤ times p xs) × (test (f p) ≡ true)
any_stands test f [] any = absurd (true≢false (sym any))
any_stands test f (x ∷ xs) any = by (test (f x)) refl (any_stands test f xs)
  where
    by : (b : Bool) → test (f x) ≡ b → (list_any test (map f xs) ≡ true → (p : ℕ) × (1 ≤ times p xs) × (test (f p) ≡ true)) → (p : ℕ) × (1 ≤ times p (x ∷ xs)) × (test (f p) ≡ true)
    by true e rest = (x, stands_here x xs, e)
    by false e rest = let later = rest (rw e at any) in (later.0, stands_later later.0 x xs later.1, later.2)

pub stands_any : {A : Type 0} (test : A → Bool) (f : ℕ → A) (p : ℕ) (xs : List ℕ) → 1 ≤ times p xs → test (f p) ≡ true → list_any test (map f xs) ≡ true
stands_any test f p [] stands passes = absurd (omega (arith, stands))
stands_any test f p (x ∷ xs) stands passes = elim (cases_eq x p) [
  | inl e ↦ rw (subst (λ q. test (f q) ≡ true) (sym e) passes) refl
  | inr ne ↦
      let rest : list_any test (map f xs) ≡ true = stands_any test f p xs (subst (λ n. 1 ≤ n) (times_there p x xs ne) stands) passes in
      or_later (test (f x)) (list_any test (map f xs)) rest
]
  where
    or_later : (a b : Bool) → b ≡ true → (a || b) ≡ true
    or_later true b e = refl
    or_later false b e = e
