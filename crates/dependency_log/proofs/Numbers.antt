-- The number of a key is its place in a list that has no key twice.
use Rattle.std.proofs.Common.{◌≡◌, ℕ, ◌<◌, ◌≤◌, Bool, true, false, List, [], ◌∷◌, ◌++◌, length, Some, None, inl, inr, refl, sym, ◌∙◌, subst, arith, true≢false}
use Rattle.std.specs.Prelude.{slice_index_or}
use Rattle.std.specs.Cmp.{IsEquivalence}
use Rattle.std.specs.List.{list_any, position, position_or_len, IsDistinct}
use Rattle.std.proofs.lemmas.Bool.{cases_lt, lt-ltb, le-ltb}
use Rattle.std.proofs.lemmas.List.Sums.{position_or_len_is, passes_at_first}
use Rattle.std.proofs.lemmas.Map.Keys.{apart_from_distinct}

module _ {K : Type 0} (p : K → Bool) where
  -- a number that is found, or none
  pub first_at : (ks : List K) (i : ℕ) → position p ks ≡ Some i → (i < length ks) × (position_or_len p ks ≡ i)
  first_at ks i at = elim (cases_lt (position_or_len p ks) (length ks)) [
    | inl within ↦
        let some : position p ks ≡ Some (position_or_len p ks) = rw (lt-ltb (position_or_len p ks) (length ks) within) refl in
        let both : Some (position_or_len p ks) ≡ Some i = sym some ∙ at in
        let same : position_or_len p ks ≡ i = cc in
        (subst (λ n. n < length ks) same within, same)
    | inr past ↦ absurd (
        let none : position p ks ≡ None = rw (le-ltb (position_or_len p ks) (length ks) past) refl in
        let bad : None ≡ Some i = sym none ∙ at in
        cc)
  ]

  pub first_past : (ks : List K) → position p ks ≡ None → length ks ≤ position_or_len p ks
  first_past ks at = elim (cases_lt (position_or_len p ks) (length ks)) [
    | inl within ↦ absurd (
        let some : position p ks ≡ Some (position_or_len p ks) = rw (lt-ltb (position_or_len p ks) (length ks) within) refl in
        let bad : Some (position_or_len p ks) ≡ None = sym some ∙ at in
        cc)
    | inr past ↦ past
  ]

  -- where a key passes, one has a number
  pub found_within : (ks : List K) → list_any p ks ≡ true → position_or_len p ks < length ks
  found_within [] found = absurd (true≢false (sym found))
  found_within (x ∷ xs) found = by (p x) refl (found_within xs)
    where
      by : (b : Bool) → p x ≡ b → (list_any p xs ≡ true → position_or_len p xs < length xs) → position_or_len p (x ∷ xs) < length (x ∷ xs)
      by true e rest = rw e (omega arith)
      by false e rest = let within : position_or_len p xs < length xs = rest (rw e at found) in rw e (omega (arith, within))

  -- where none passes, the list goes on past all numbers
  pub absent_past : (ks more : List K) → list_any p ks ≡ false → length ks ≤ position_or_len p (ks ++ more)
  absent_past [] more none = omega arith
  absent_past (x ∷ xs) more none = by (p x) refl (absent_past xs more)
    where
      by : (b : Bool) → p x ≡ b → (list_any p xs ≡ false → length xs ≤ position_or_len p (xs ++ more)) → length (x ∷ xs) ≤ position_or_len p ((x ∷ xs) ++ more)
      by true e rest = absurd (true≢false (rw e at none))
      by false e rest = let past : length xs ≤ position_or_len p (xs ++ more) = rest (rw e at none) in rw e (omega (arith, past))

module _ {K : Type 0} (eq : K → K → Bool) (laws : IsEquivalence eq) (same : (a b : K) → eq a b ≡ true → a ≡ b) (d : K) where
  -- the key at the number of a key is that key
  pub key_at : (k : K) (ks : List K) → position_or_len (eq k) ks < length ks → slice_index_or ks (position_or_len (eq k) ks) d ≡ k
  key_at k ks within = sym (same k (slice_index_or ks (position_or_len (eq k) ks) d) (passes_at_first (eq k) ks d within))

  -- a number is that of the key at it
  pub number_at : (k : K) (ks : List K) (n : ℕ) → IsDistinct eq ks → n < length ks → slice_index_or ks n d ≡ k → position_or_len (eq k) ks ≡ n
  number_at k ks n unique within at =
      let own : position_or_len (eq (slice_index_or ks n d)) ks ≡ n =
      position_or_len_is (eq (slice_index_or ks n d)) ks n d (omega (arith, within))
      (λ j before. laws.symm (slice_index_or ks n d) (slice_index_or ks j d) ∙ apart_from_distinct eq ks j n d unique before within)
      (λ w. laws.refl (slice_index_or ks n d)) in
      subst (λ x. position_or_len (eq x) ks ≡ n) at own
