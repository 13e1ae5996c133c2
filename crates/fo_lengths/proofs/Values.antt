-- The values of the grammars have no space in them.
use Rattle.std.proofs.Common.{◌≡◌, ℕ, List, arith}
use Rattle.fo_lengths.specs.WholeNumber.{IsWholeNumber}
use Rattle.fo_lengths.proofs.Edges.{IsTight, tight, digits_no_space}

pub whole_tight : (digits : List ℕ) (n : ℕ) → IsWholeNumber digits n → IsTight digits
whole_tight digits n is = tight digits (digits_no_space 10 (omega arith) digits is.decimal)

pub whole_one : (digits : List ℕ) (a b : ℕ) → IsWholeNumber digits a → IsWholeNumber digits b → a ≡ b
whole_one digits a b p q = let one : a ≡ b = cc (p.value, q.value) in one
