-- How four bytes say a number or none. Only this crate's own code speaks of it.
use Rattle.std.specs.Prelude.{◌≡◌, ℕ, zero, suc, Option, Some, None, refl}
use Rattle.std.proofs.Common.{ap}
use Rattle.index_lists.specs.declared.index.Index.TheInside.{Inside}

-- the number that a code stands for: 0 for none, and else one more than the number
abbrev pub number_of : ℕ → Option ℕ
number_of zero = None
number_of (suc n) = Some n

-- the code of a number or of none
abbrev pub code_of : Option ℕ → ℕ
code_of None = 0
code_of (Some n) = suc n

-- what is kept for a number or for none
abbrev pub kept_for : Option ℕ → Inside
kept_for n = record { code = code_of n }

code_of-number_of : (code : ℕ) → code_of (number_of code) ≡ code
code_of-number_of zero = refl
code_of-number_of (suc n) = refl

pub kept_for-number_of : (i : Inside) → kept_for (number_of i.code) ≡ i
kept_for-number_of i = ap (λ (n : ℕ). let kept : Inside = record { code = n } in kept) (code_of-number_of i.code)
