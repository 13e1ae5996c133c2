-- How often a place stands in a list.
use Rattle.std.proofs.Common.{◌≡◌, ℕ, ◌+◌, ◌<◌, ◌≤◌, true, false, cond, eqb, List, [], ◌∷◌, ◌++◌, length, refl, sym, ap, ◌∙◌, subst, inl, inr, le_trans, arith}
use Rattle.std.specs.List.{IsDistinct, AllByRecursion, list_any}
use Rattle.std.proofs.lemmas.Bool.{cases_eq, eq-eqb, ne_eqb, eqb-true, or_cases}
use Rattle.std.proofs.lemmas.List.Sums.{sum_by-cons, sum_by_push}
use Rattle.std.proofs.lemmas.Map.Steps.{length-le_from_distinct_below}
use Rattle.index_lists.specs.Lists.{times, without}

-- what one place counts for
abbrev one_if : ℕ → ℕ → ℕ
one_if p x = cond (eqb x p) 1 0

times_cons : (p x : ℕ) (xs : List ℕ) → times p (x ∷ xs) ≡ one_if p x + times p xs
times_cons p x xs = sum_by-cons (one_if p) x xs

pub times_here : (p : ℕ) (xs : List ℕ) → times p (p ∷ xs) ≡ times p xs + 1
times_here p xs =
    let one : one_if p p ≡ 1 = rw (eq-eqb p p refl) in
    times_cons p p xs ∙ omega (arith, one)

pub times_there : (p x : ℕ) (xs : List ℕ) → (x ≡ p → ⊥) → times p (x ∷ xs) ≡ times p xs
times_there p x xs ne =
    let none : one_if p x ≡ 0 = rw (ne_eqb x p ne) in
    times_cons p x xs ∙ omega (arith, none)

-- a place that a list does not have is not its first place
pub ne_from_times : (p x : ℕ) (xs : List ℕ) → times p (x ∷ xs) ≡ 0 → x ≡ p → ⊥
ne_from_times p x xs none e =
    let stands : times x (x ∷ xs) ≡ times x xs + 1 = times_here x xs in
    let none' : times x (x ∷ xs) ≡ 0 = subst (λ q. times q (x ∷ xs) ≡ 0) (sym e) none in
    absurd (omega (arith, sym stands ∙ none'))

-- the rest has a place no more often than the whole
pub times_rest : (p x : ℕ) (xs : List ℕ) → times p xs ≤ times p (x ∷ xs)
times_rest p x xs = rw (times_cons p x xs) (omega arith)

pub times_push_same : (p : ℕ) (xs : List ℕ) → times p (xs ++ p ∷ []) ≡ times p xs + 1
times_push_same p xs =
    let one : one_if p p ≡ 1 = rw (eq-eqb p p refl) in
    sum_by_push (one_if p) xs p ∙ ap (λ n. times p xs + n) one

pub times_push_other : (p q : ℕ) (xs : List ℕ) → (p ≡ q → ⊥) → times q (xs ++ p ∷ []) ≡ times q xs
times_push_other p q xs ne =
    let none : one_if q p ≡ 0 = rw (ne_eqb p q ne) in
    sum_by_push (one_if q) xs p ∙ ap (λ n. times q xs + n) none ∙ omega arith

pub without_here : (p : ℕ) (xs : List ℕ) → without p (p ∷ xs) ≡ without p xs
without_here p xs = rw (eq-eqb p p refl)

pub without_there : (p x : ℕ) (xs : List ℕ) → (x ≡ p → ⊥) → without p (x ∷ xs) ≡ x ∷ without p xs
without_there p x xs ne = rw (ne_eqb x p ne)

pub without_absent : (p : ℕ) (xs : List ℕ) → times p xs ≡ 0 → without p xs ≡ xs
without_absent p [] none = refl
without_absent p (x ∷ xs) none =
    let ne : x ≡ p → ⊥ = ne_from_times p x xs none in
    without_there p x xs ne ∙ ap (λ ys. x ∷ ys) (without_absent p xs (sym (times_there p x xs ne) ∙ none))

pub times-without_same : (p : ℕ) (xs : List ℕ) → times p (without p xs) ≡ 0
times-without_same p [] = refl
times-without_same p (x ∷ xs) = elim (cases_eq x p) [
  | inl e ↦ subst (λ q. times q (without q (x ∷ xs)) ≡ 0) e (ap (times x) (without_here x xs) ∙ subst (λ q. times q (without q xs) ≡ 0) (sym e) (times-without_same p xs))
  | inr ne ↦ ap (times p) (without_there p x xs ne) ∙ times_there p x (without p xs) ne ∙ times-without_same p xs
]

pub times-without_other : (p q : ℕ) (xs : List ℕ) → (p ≡ q → ⊥) → times q (without p xs) ≡ times q xs
times-without_other p q [] ne = refl
times-without_other p q (x ∷ xs) ne =
    let rest : times q (without p xs) ≡ times q xs = times-without_other p q xs ne in
    elim (cases_eq x p) [
      | inl e ↦
          let gone : without p (x ∷ xs) ≡ without p xs = subst (λ r. without r (x ∷ xs) ≡ without r xs) e (without_here x xs) in
          ap (times q) gone ∙ rest ∙ sym (times_there q x xs (λ i. ne (sym e ∙ i)))
      | inr apart ↦ ap (times q) (without_there p x xs apart) ∙ times_cons q x (without p xs) ∙ ap (λ n. one_if q x + n) rest ∙ sym (times_cons q x xs)
    ]

-- ---- how long a list is that has each place once at most

all_apart : (p : ℕ) (xs : List ℕ) → times p xs ≡ 0 → AllByRecursion (λ y. eqb p y ≡ false) xs
all_apart p [] none = tt
all_apart p (x ∷ xs) none =
    let ne : x ≡ p → ⊥ = ne_from_times p x xs none in
    (ne_eqb p x (λ e. ne (sym e)), all_apart p xs (sym (times_there p x xs ne) ∙ none))

distinct : (xs : List ℕ) → ((p : ℕ) → times p xs ≤ 1) → IsDistinct eqb xs
unfolding IsDistinct
distinct [] once = tt
distinct (x ∷ xs) once = (
  all_apart x xs (let one : times x (x ∷ xs) ≤ 1 = once x in let here : times x (x ∷ xs) ≡ times x xs + 1 = times_here x xs in omega arith),
  distinct xs (λ p. let one : times p (x ∷ xs) ≤ 1 = once p in let rest : times p xs ≤ times p (x ∷ xs) = times_rest p x xs in omega arith),
)

stands_from_any : (p : ℕ) (xs : List ℕ) → list_any (eqb p) xs ≡ true → 1 ≤ times p xs
stands_from_any p [] any = cc
stands_from_any p (x ∷ xs) any = elim (or_cases (eqb p x) (list_any (eqb p) xs) any) [
  | inl e ↦ subst (λ q. 1 ≤ times q (x ∷ xs)) (sym (eqb-true p x e)) (rw (times_here x xs) (omega arith))
  | inr later ↦ le_trans (stands_from_any p xs later) (times_rest p x xs)
]

-- a list that has no place twice, and only places below n, has n places at most
pub length_within : (xs : List ℕ) (n : ℕ) → ((p : ℕ) → times p xs ≤ 1) → ((p : ℕ) → 1 ≤ times p xs → p < n) → length xs ≤ n
length_within xs n once below = length-le_from_distinct_below xs n (distinct xs once) (λ p any. below p (stands_from_any p xs any))
