-- A reader of a grammar of values, over the text with the spaces at its ends.
use Rattle.std.proofs.Common.{◌≡◌, ℕ, List, Option, Some, None, Result, Ok, ◌↔◌, sym, ◌∙◌, ap, subst}
use Rattle.std.proofs.lemmas.Bool.{false≢true}
use Rattle.std.specs.Option.{IfSome, ok_or}
use Rattle.std.specs.Result.{IsErr, is_err}
use Rattle.fo_lengths.specs.Padding.{IsPadded, IsTrimmed}
use Rattle.fo_lengths.proofs.Edges.{IsTight, values_same}

-- what a text is by the grammar R of values
abbrev pub Padded : {V : Type 0} → (List ℕ → V → Type 0) → List ℕ → V → Type 0
Padded R text v = (value : List ℕ) × IsPadded text value × R value v

pub trimmed_tight : (text value : List ℕ) → IsTrimmed text value → IsTight value
trimmed_tight text value t = record { start = t.start; end = t.end }

-- no value of R has a space at its ends
abbrev pub AreTight : {V : Type 0} → (List ℕ → V → Type 0) → Type 0
AreTight {V} R = (value : List ℕ) (v : V) → R value v → IsTight value

-- what the text is, the trimmed text is
at_trimmed : {V : Type 0} (R : List ℕ → V → Type 0) → AreTight R → (text value : List ℕ) → IsTrimmed text value → (v : V) → Padded R text v → R value v
at_trimmed R tight text value t v (x, padded, is) =
    subst (λ y. R y v) (values_same text x value padded (tight x v is) t.padded (trimmed_tight text value t)) is

pub read_value : {V E : Type 0} (R : List ℕ → V → Type 0) (error : E) → AreTight R → (text value : List ℕ) → IsTrimmed text value → (o : Option V) → IfSome o (R value) → ((v : V) → R value v → o ≡ Some v) → (r : Result V E) → r ≡ ok_or o error → (v : V) → (r ≡ Ok v) ↔ Padded R text v
read_value R error tight text value t None found only r e v =
    (λ ok. absurd (cc), λ is. absurd (let none : None ≡ Some v = only v (at_trimmed R tight text value t v is) in cc))
read_value R error tight text value t (Some w) found only r e v = (
  λ ok. (value, t.padded, subst (R value) (let same : w ≡ v = cc in same) found),
  λ is. let same : Some w ≡ Some v = only v (at_trimmed R tight text value t v is) in e ∙ ap (λ o. ok_or o error) same,
)

pub read_bad : {V E : Type 0} (R : List ℕ → V → Type 0) (error : E) → AreTight R → (text value : List ℕ) → IsTrimmed text value → (o : Option V) → IfSome o (R value) → ((v : V) → R value v → o ≡ Some v) → (r : Result V E) → r ≡ ok_or o error → IsErr r ↔ ((v : V) → Padded R text v → ⊥)
read_bad R error tight text value t None found only r e =
    (λ bad v is. let none : None ≡ Some v = only v (at_trimmed R tight text value t v is) in absurd (cc), λ no. ap is_err e)
read_bad R error tight text value t (Some w) found only r e =
    (λ bad. absurd (false≢true (sym (ap is_err e) ∙ bad)), λ no. absurd (no w (value, t.padded, found)))

-- a text is at most one value where a value's text is
pub one_value : {V : Type 0} (R : List ℕ → V → Type 0) → AreTight R → ((value : List ℕ) (a b : V) → R value a → R value b → a ≡ b) → (text : List ℕ) (a b : V) → Padded R text a → Padded R text b → a ≡ b
one_value R tight one text a b (x, padded_x, is_a) (y, padded_y, is_b) =
    one y a b (subst (λ z. R z a) (values_same text x y padded_x (tight x a is_a) padded_y (tight y b is_b)) is_a) is_b

-- a text is trimmed to one value
pub trimmed_one : (text a b : List ℕ) → IsTrimmed text a → IsTrimmed text b → a ≡ b
trimmed_one text a b t u = values_same text a b t.padded (trimmed_tight text a t) u.padded (trimmed_tight text b u)
