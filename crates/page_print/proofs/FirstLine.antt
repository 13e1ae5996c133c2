-- Where the first of some elements stands.
use Rattle.std.proofs.Common.{◌≡◌, ◌+◌, ◌≤◌, inl, inr, not, Bool, true, false, List, [], ◌∷◌, length, unwrap_or, Some, None, if◌then◌else◌, ap, ◌∙◌, arith}
use Rattle.std.proofs.lemmas.Bool.{cases_lt, lt-ltb, le-ltb}
use Rattle.std.specs.List.{position_or_len, position}

place_le : {A : Type 0} (p : A → Bool) (xs : List A) → position_or_len p xs ≤ length xs
place_le p [] = omega arith
place_le p (x ∷ xs) = elim (p x) as (λ t. (if not t then 1 + position_or_len p xs else 0) ≤ length (x ∷ xs)) [ true ↦ omega arith | false ↦ let h = place_le p xs in omega arith ]

pub unwrap_position : {A : Type 0} (p : A → Bool) (xs : List A) → unwrap_or (position p xs) (length xs) ≡ position_or_len p xs
unwrap_position p xs = elim (cases_lt (position_or_len p xs) (length xs)) [
  | inl less ↦ ap (λ t. unwrap_or (if t then Some (position_or_len p xs) else None) (length xs)) (lt-ltb (position_or_len p xs) (length xs) less)
  | inr more ↦ ap (λ t. unwrap_or (if t then Some (position_or_len p xs) else None) (length xs)) (le-ltb (position_or_len p xs) (length xs) more) ∙ (let h = place_le p xs in omega arith)
]
