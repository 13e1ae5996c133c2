-- What stands under which number, where a tree is numbered in document order.
use Rattle.std.proofs.Common.{◌≡◌, ℕ, ◌+◌, ◌<◌, ◌≤◌, ◌==◌, ◌⊎◌, inl, inr, List, ◌∷◌, ◌++◌, map, length, Option, Some, None, slice_get, if◌then◌else◌, refl, ap, ◌∙◌, arith, length-append}
use Rattle.std.proofs.lemmas.Bool.{cases_lt, cases_eq}
use Rattle.tree_lines.specs.Given.{Given, count_of}
use Rattle.tree_lines.specs.Given as given
use Rattle.source_model.specs.Cells.{or_else, spot_in}
use Rattle.source_model.specs.Proper.{uses}
use Rattle.source_tree.specs.Begun.{numbered}
use Rattle.source_primitives.proofs.Around.{count_same, count_other}
pub use Rattle.source_primitives.proofs.Around.{at_same, at_other}

-- a number before the first one, or past the last
abbrev pub IsOutside : ℕ → ℕ → Given → Type 0
IsOutside n k g = (n < k) ⊎ (k + count_of g ≤ n)

-- one node less
outside_rest : (n k m : ℕ) (c : ℕ) → (n < k) ⊎ (k + (1 + c + m) ≤ n) → (n < k + 1 + c) ⊎ (k + 1 + c + m ≤ n)
outside_rest n k m c (inl h) = inl (omega arith)
outside_rest n k m c (inr h) = inr (omega arith)

outside_content : (n k m : ℕ) (c : ℕ) → (n < k) ⊎ (k + (1 + c + m) ≤ n) → (n < k + 1) ⊎ (k + 1 + c ≤ n)
outside_content n k m c (inl h) = inl (omega arith)
outside_content n k m c (inr h) = inr (omega arith)

outside_own : (n k m : ℕ) → (n < k) ⊎ (k + (1 + m) ≤ n) → n ≡ k → ⊥
outside_own n k m (inl h) e = absurd (omega arith)
outside_own n k m (inr h) e = absurd (omega arith)

outside_leaf : (n k m : ℕ) → (n < k) ⊎ (k + (1 + m) ≤ n) → (n < k + 1) ⊎ (k + 1 + m ≤ n)
outside_leaf n k m (inl h) = inl (omega arith)
outside_leaf n k m (inr h) = inr (omega arith)

own_of_two : (n k c m : ℕ) → (n < k) ⊎ (k + (1 + c + m) ≤ n) → n ≡ k → ⊥
own_of_two n k c m (inl h) e = absurd (omega arith)
own_of_two n k c m (inr h) e = absurd (omega arith)

pub spot_in-outside : (up : Option ℕ) (n k : ℕ) (g : Given) → IsOutside n k g → spot_in up n (numbered k g) ≡ None
spot_in-outside up n k given.end out = refl
spot_in-outside up n k (given.text t rest) out =
    at_other n k _ _ (outside_own n k (count_of rest) out) ∙ spot_in-outside up n (k + 1) rest (outside_leaf n k (count_of rest) out)
spot_in-outside up n k (given.comment t rest) out =
    at_other n k _ _ (outside_own n k (count_of rest) out) ∙ spot_in-outside up n (k + 1) rest (outside_leaf n k (count_of rest) out)
spot_in-outside up n k (given.element name attributes line content rest) out =
    at_other n k _ _ (own_of_two n k (count_of content) (count_of rest) out)
    ∙ ap (λ o. or_else o (spot_in up n (numbered (k + 1 + count_of content) rest))) (spot_in-outside (Some k) n (k + 1) content (outside_content n k (count_of rest) (count_of content) out))
    ∙ spot_in-outside up n (k + 1 + count_of content) rest (outside_rest n k (count_of rest) (count_of content) out)

pub uses-outside : (n k : ℕ) (g : Given) → IsOutside n k g → uses n (numbered k g) ≡ 0
uses-outside n k given.end out = refl
uses-outside n k (given.text t rest) out =
    let own = count_other n k (outside_own n k (count_of rest) out) in
    let later = uses-outside n (k + 1) rest (outside_leaf n k (count_of rest) out) in
    omega (arith, own, later)
uses-outside n k (given.comment t rest) out =
    let own = count_other n k (outside_own n k (count_of rest) out) in
    let later = uses-outside n (k + 1) rest (outside_leaf n k (count_of rest) out) in
    omega (arith, own, later)
uses-outside n k (given.element name attributes line content rest) out =
    let own = count_other n k (own_of_two n k (count_of content) (count_of rest) out) in
    let below = uses-outside n (k + 1) content (outside_content n k (count_of rest) (count_of content) out) in
    let later = uses-outside n (k + 1 + count_of content) rest (outside_rest n k (count_of rest) (count_of content) out) in
    omega (arith, own, below, later)

-- no number stands twice
uses_leaf : (n k : ℕ) (g : Given) → ((n ≡ k) ⊎ (n ≡ k → ⊥)) → uses n (numbered (k + 1) g) ≤ 1 → (if n == k then 1 else 0) + 0 + uses n (numbered (k + 1) g) ≤ 1
uses_leaf n k g (inl e) h =
    let own = count_same n k e in
    let later = uses-outside n (k + 1) g (inl (omega arith)) in
    omega (arith, own, later)
uses_leaf n k g (inr e) h = let own = count_other n k e in omega (arith, own, h)

uses_two : (n k : ℕ) (content rest : Given) → ((n ≡ k) ⊎ (n ≡ k → ⊥)) → ((n < k + 1 + count_of content) ⊎ (k + 1 + count_of content ≤ n)) → uses n (numbered (k + 1) content) ≤ 1 →
    uses n (numbered (k + 1 + count_of content) rest) ≤ 1 → (if n == k then 1 else 0) + uses n (numbered (k + 1) content) + uses n (numbered (k + 1 + count_of content) rest) ≤ 1
uses_two n k content rest (inl e) side h i =
    let own = count_same n k e in
    let below = uses-outside n (k + 1) content (inl (omega arith)) in
    let later = uses-outside n (k + 1 + count_of content) rest (inl (omega arith)) in
    omega (arith, own, below, later)
uses_two n k content rest (inr e) (inl before) h i =
    let own = count_other n k e in
    let later = uses-outside n (k + 1 + count_of content) rest (inl before) in
    omega (arith, own, later, h)
uses_two n k content rest (inr e) (inr behind) h i =
    let own = count_other n k e in
    let below = uses-outside n (k + 1) content (inr behind) in
    omega (arith, own, below, i)

pub uses-numbered : (n k : ℕ) (g : Given) → uses n (numbered k g) ≤ 1
uses-numbered n k given.end = omega arith
uses-numbered n k (given.text t rest) = uses_leaf n k rest (cases_eq n k) (uses-numbered n (k + 1) rest)
uses-numbered n k (given.comment t rest) = uses_leaf n k rest (cases_eq n k) (uses-numbered n (k + 1) rest)
uses-numbered n k (given.element name attributes line content rest) =
    uses_two n k content rest (cases_eq n k) (cases_lt n (k + 1 + count_of content)) (uses-numbered n (k + 1) content) (uses-numbered n (k + 1 + count_of content) rest)

-- each number from the first to the last stands there
pub uses-within : (g : Given) (n k : ℕ) → k ≤ n → n < k + count_of g → 0 < uses n (numbered k g)
uses-within given.end n k from to = absurd (omega (arith, from, to))
uses-within (given.text t rest) n k from to = elim (cases_eq n k) [
  | inl same ↦ let own = count_same n k same in omega (arith, own)
  | inr other ↦ let h = uses-within rest n (k + 1) (omega (arith, from, other)) (omega (arith, to)) in omega (arith, h)
]
uses-within (given.comment t rest) n k from to = elim (cases_eq n k) [
  | inl same ↦ let own = count_same n k same in omega (arith, own)
  | inr other ↦ let h = uses-within rest n (k + 1) (omega (arith, from, other)) (omega (arith, to)) in omega (arith, h)
]
uses-within (given.element name attributes line content rest) n k from to = elim (cases_eq n k) [
  | inl same ↦ let own = count_same n k same in omega (arith, own)
  | inr other ↦ elim (cases_lt n (k + 1 + count_of content)) [
    | inl inside ↦ let h = uses-within content n (k + 1) (omega (arith, from, other)) inside in omega (arith, h)
    | inr past ↦ let h = uses-within rest n (k + 1 + count_of content) past (omega (arith, to)) in omega (arith, h)
  ]
]
