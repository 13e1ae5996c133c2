-- The list from a place on.
use Rattle.std.proofs.Common.{◌≡◌, ℕ, ◌+◌, ◌≤◌, List, [], ◌∷◌, Option, Some, None, inl, inr, refl, sym, ap, ◌∙◌, subst, le_trans, arith}
use Rattle.std.proofs.lemmas.Bool.{cases_eq, eq-eqb, ne_eqb}
use Rattle.index_lists.specs.Lists.{times, first_of, place_after, from_first}
use Rattle.index_lists.proofs.Times.{times_here, times_there, times_rest}

place_after-in : (n m : ℕ) (xs : List ℕ) → place_after n xs ≡ Some m → 1 ≤ times m xs
place_after-in n m [] e = absurd (cc)
place_after-in n m (x ∷ xs) e = elim (cases_eq x n) [
  | inl is ↦ le_trans (first-in xs (sym (here is) ∙ e)) (times_rest m x xs)
  | inr ne ↦ le_trans (place_after-in n m xs (sym (there ne) ∙ e)) (times_rest m x xs)
] where
  here : x ≡ n → place_after n (x ∷ xs) ≡ first_of xs
  here is = rw (eq-eqb x n is)

  there : (x ≡ n → ⊥) → place_after n (x ∷ xs) ≡ place_after n xs
  there ne = rw (ne_eqb x n ne)

  first-in : (ys : List ℕ) → first_of ys ≡ Some m → 1 ≤ times m ys
  first-in [] e = absurd (cc)
  first-in (y ∷ ys) e = subst (λ r. 1 ≤ times r (y ∷ ys)) (let same : y ≡ m = cc in same) (rw (times_here y ys) (omega arith))

pub from_first_here : (n : ℕ) (xs : List ℕ) → from_first n (n ∷ xs) ≡ n ∷ xs
from_first_here n xs = rw (eq-eqb n n refl)

from_first_there : (n x : ℕ) (xs : List ℕ) → (x ≡ n → ⊥) → from_first n (x ∷ xs) ≡ from_first n xs
from_first_there n x xs ne = rw (ne_eqb x n ne)

-- the list from x on
abbrev pub list_from : Option ℕ → List ℕ → List ℕ
list_from None xs = []
list_from (Some m) xs = from_first m xs

list_from-first : (n : ℕ) (xs : List ℕ) → times n xs ≡ 0 → list_from (first_of xs) (n ∷ xs) ≡ xs
list_from-first n [] none = refl
list_from-first n (y ∷ ys) none =
    from_first_there y n (y ∷ ys) (λ e. absurd (let some : times y (y ∷ ys) ≡ times y ys + 1 = times_here y ys in let none' : times y (y ∷ ys) ≡ 0 = subst (λ m. times m (y ∷ ys) ≡ 0) e none in omega (arith, some, none')))
    ∙ from_first_here y ys

list_from-later : (x : ℕ) (y : Option ℕ) (xs : List ℕ) → ((m : ℕ) → y ≡ Some m → x ≡ m → ⊥) → list_from y (x ∷ xs) ≡ list_from y xs
list_from-later x None xs ne = refl
list_from-later x (Some m) xs ne = from_first_there m x xs (ne m refl)

-- the list from a place on is the place, and the list from the next one on
pub from_first_step : (n : ℕ) (xs : List ℕ) → ((m : ℕ) → times m xs ≤ 1) → 1 ≤ times n xs → from_first n xs ≡ n ∷ list_from (place_after n xs) xs
from_first_step n [] once some = absurd (omega (arith, some))
from_first_step n (x ∷ xs) once some = elim (cases_eq x n) [
  | inl e ↦
      let none : times x xs ≡ 0 = let most : times x (x ∷ xs) ≤ 1 = once x in let here : times x (x ∷ xs) ≡ times x xs + 1 = times_here x xs in omega (arith, most, here) in
      subst (λ m. from_first m (x ∷ xs) ≡ m ∷ list_from (place_after m (x ∷ xs)) (x ∷ xs)) e
      (from_first_here x xs ∙ sym (ap (λ ys. x ∷ ys) (rw (eq-eqb x x refl) (list_from-first x xs none))))
  | inr ne ↦
      let rest : from_first n xs ≡ n ∷ list_from (place_after n xs) xs =
      from_first_step n xs (λ m. le_trans (times_rest m x xs) (once m)) (subst (λ c. 1 ≤ c) (times_there n x xs ne) some) in
      let next : place_after n (x ∷ xs) ≡ place_after n xs = rw (ne_eqb x n ne) in
      from_first_there n x xs ne ∙ rest
      ∙ ap (λ ys. n ∷ ys) (sym (ap (λ y. list_from y (x ∷ xs)) next ∙ list_from-later x (place_after n xs) xs
      (λ m at e. absurd (
      let in_rest : 1 ≤ times m xs = place_after-in n m xs at in
      let most : times x (x ∷ xs) ≤ 1 = once x in
      let here : times x (x ∷ xs) ≡ times x xs + 1 = times_here x xs in
      let in_rest' : 1 ≤ times x xs = subst (λ r. 1 ≤ times r xs) (sym e) in_rest in
      omega (arith, most, here, in_rest')))))
]
