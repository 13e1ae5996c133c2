-- Bytes that are consumed piece by piece, and how many calls that takes.
use Rattle.std.proofs.Common.{◌≡◌, ℕ, ◌+◌, ◌≤◌, List, [], ◌++◌, length, Option, Some, None, IfSome, refl, sym, ap, ◌∙◌, subst, append_assoc, arith, length-append}
use Rattle.serna_outside.specs.Outside.{Consumes, IsAtEnd}

pub consumes_none : (left : Option (List ℕ)) → Consumes left left []
consumes_none None = tt
consumes_none (Some bytes) = refl

pub consumes_then : (a b c : Option (List ℕ)) (xs ys : List ℕ) → Consumes a b xs → Consumes b c ys → Consumes a c (xs ++ ys)
consumes_then None None None xs ys h i = tt
consumes_then None None (Some z) xs ys h i = i
consumes_then None (Some y) c xs ys h i = absurd h
consumes_then (Some x) None c xs ys h i = absurd h
consumes_then (Some x) (Some y) None xs ys h i = i
consumes_then (Some x) (Some y) (Some z) xs ys h i = h ∙ ap (λ b. xs ++ b) i ∙ sym (append_assoc xs ys z)

pub at_end : (a b : Option (List ℕ)) → IsAtEnd a → b ≡ a → IsAtEnd b
at_end a b h e = subst IsAtEnd (sym e) h

-- at most one call more than these bytes that were taken
pub calls_for : (left left₁ : Option (List ℕ)) (bytes : List ℕ) (calls calls₁ : ℕ) → Consumes left left₁ bytes → calls₁ ≤ calls + length bytes + 1 →
    IfSome left (λ before. IfSome left₁ (λ after. calls₁ + length after ≤ calls + length before + 1))
calls_for None left₁ bytes calls calls₁ taken few = tt
calls_for (Some before) None bytes calls calls₁ taken few = absurd taken
calls_for (Some before) (Some after) bytes calls calls₁ taken few = omega (arith, ap length taken, length-append bytes after)

pub no_calls : (left : Option (List ℕ)) (calls : ℕ) → IfSome left (λ before. IfSome left (λ after. calls + length after ≤ calls + length before + 1))
no_calls left calls = calls_for left left [] calls calls (consumes_none left) (omega arith)
