-- A read that copies the front of what is left keeps the contract of a source.
use Rattle.std.proofs.Common.{◌≡◌, ℕ, zero, suc, ◌≤◌, false, eqb, List, [], ◌++◌, length, take, drop, Some, refl, sym, ap, ◌∙◌, arith, rules, tests}
use Rattle.std.proofs.lemmas.List.{take-append-drop, take_at, length-take-le}
use Rattle.serna_outside.specs.declared.traits.Got.{Got}
use Rattle.serna_outside.specs.declared.traits.Got.TheVariants as got
use Rattle.serna_outside.specs.Outside.{Reads}
use Rattle.serna_outside.specs.MemorySource.{got_of}

-- what was left, in its front and its rest, where the front stands in the buffer
split_in_buffer : (before into old : List ℕ) (count : ℕ) → count ≤ length before → into ≡ take count before ++ drop count old → before ≡ take count into ++ drop count before
split_in_buffer before into old count fits copied =
    let front : take count into ≡ take count before = ap (take count) copied ∙ take_at (take count before) (drop count old) count (length-take-le count before fits) in
    sym (take-append-drop count before) ∙ ap (λ (xs : List ℕ). xs ++ drop count before) (sym front)

got_of-suc : (n : ℕ) → got_of (suc n) ≡ got.Bytes (suc n)
got_of-suc n = let some : eqb (suc n) 0 ≡ false = search (rules, tests) in rw some

pub Reads-copied : (before after into old : List ℕ) (count : ℕ) (result : Got) → count ≤ length before → count ≤ length into → (count ≡ 0 → before ≡ []) → into ≡ take count before ++ drop count old → after ≡ drop count before → result ≡ got_of count → Reads (Some before) (Some after) into result
Reads-copied before after into old zero result fits room at_end copied rest answer = rw answer (at_end refl, ap Some rest)
Reads-copied before after into old (suc n) result fits room at_end copied rest answer =
    let bytes : result ≡ got.Bytes (suc n) = answer ∙ got_of-suc n in
    rw (bytes, rest) (omega arith, room, split_in_buffer before into old (suc n) fits copied)
