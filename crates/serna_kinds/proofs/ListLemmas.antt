-- Lists that grow at their end, and lists without repetition.
use Rattle.std.proofs.Common.{◌≡◌, ℕ, ◌+◌, ◌<◌, Bool, true, false, List, [], ◌∷◌, ◌++◌, Some, slice_get, zero, suc, refl, sym, ap, ◌∙◌, true≢false, inl, inr, arith}
use Rattle.std.specs.List.{list_any, position_or_len, IsDistinct}
use Rattle.std.proofs.lemmas.Bool.{cases_lt}
use Rattle.std.proofs.lemmas.Map.Keys.{apart_from_distinct}
use Rattle.std.proofs.lemmas.Option.{none-some, slice_get_within, get_or_from_slice_get}

module _ {X : Type 0} (p : X → Bool) where
  -- where an element passes, the first place that passes stays as the list goes on
  pub position_or_len-append : (xs ys : List X) → list_any p xs ≡ true → position_or_len p (xs ++ ys) ≡ position_or_len p xs
  position_or_len-append [] ys found = absurd (true≢false (sym found))
  position_or_len-append (x ∷ xs) ys found = by (p x) refl (position_or_len-append xs ys)
    where
      by : (b : Bool) → p x ≡ b → (list_any p xs ≡ true → position_or_len p (xs ++ ys) ≡ position_or_len p xs) → position_or_len p ((x ∷ xs) ++ ys) ≡ position_or_len p (x ∷ xs)
      by true e rest = rw e refl
      by false e rest = rw e (ap (λ n. 1 + n) (rest (rw e at found)))

  -- where none passes, an element that passes and comes next is the first
  pub position_or_len-next : (x : X) → p x ≡ true → (xs ys : List X) → list_any p xs ≡ false → position_or_len p (xs ++ x ∷ ys) ≡ position_or_len p xs
  position_or_len-next x passes [] ys none = rw passes refl
  position_or_len-next x passes (y ∷ xs) ys none = by (p y) refl (position_or_len-next x passes xs ys)
    where
      by : (b : Bool) → p y ≡ b → (list_any p xs ≡ false → position_or_len p (xs ++ x ∷ ys) ≡ position_or_len p xs) → position_or_len p ((y ∷ xs) ++ x ∷ ys) ≡ position_or_len p (y ∷ xs)
      by true e rest = absurd (true≢false (rw e at none))
      by false e rest = rw e (ap (λ n. 1 + n) (rest (rw e at none)))

-- an element keeps its place as the list goes on
pub slice_get-append : {X : Type 0} (xs ys : List X) (i : ℕ) (x : X) → slice_get xs i ≡ Some x → slice_get (xs ++ ys) i ≡ Some x
slice_get-append [] ys i x at = absurd (none-some x at)
slice_get-append (z ∷ xs) ys zero x at = at
slice_get-append (z ∷ xs) ys (suc i) x at = slice_get-append xs ys i x at

-- where no two elements are equal, an element stands at one place
pub one_place : {X : Type 0} (eq : X → X → Bool) → ((x : X) → eq x x ≡ true) → (xs : List X) → IsDistinct eq xs
    → (i j : ℕ) (x : X) → slice_get xs i ≡ Some x → slice_get xs j ≡ Some x → i ≡ j
one_place eq itself xs unique i j x at_i at_j =
    elim (cases_lt i j) [
      | inl before ↦ absurd (apart i j before at_i at_j)
      | inr after ↦ elim (cases_lt j i) [ inl before ↦ absurd (apart j i before at_j at_i) | inr other ↦ omega arith ]
    ]
  where
    apart : (k l : ℕ) → k < l → slice_get xs k ≡ Some x → slice_get xs l ≡ Some x → ⊥
    apart k l before at_k at_l =
        let differ = apart_from_distinct eq xs k l x unique before (slice_get_within xs l x at_l) in
        let same_k = get_or_from_slice_get xs k x x at_k in
        let same_l = get_or_from_slice_get xs l x x at_l in
        true≢false (sym (itself x) ∙ sym (λ m. eq (same_k m) (same_l m)) ∙ differ)
