-- A node-set compares where some member does, and a NaN where it differs.
use Rattle.std.proofs.Common.{◌≡◌, ◌↔◌, ◌≢◌, ℕ, zero, suc, ◌<◌, Bool, true, false, List, [], ◌∷◌, length, refl, ◌∙◌, ap, arith, inl, inr}
use Rattle.std.specs.List.{list_any, Contains, slice_index_or}
use Rattle.std.proofs.lemmas.Bool.{or_cases, or_left, or_right, false≢true}
use Rattle.serna_kinds.specs.declared.expressions.CompareOp.{CompareOp}
use Rattle.serna_kinds.specs.declared.expressions.CompareOp.TheVariants.{Equal, NotEqual, Less, LessOrEqual, Greater, GreaterOrEqual}
use Rattle.xpath_values.specs.declared.number.Num.{Num}
use Rattle.xpath_values.specs.declared.number.Num.TheVariants.{NaN}
use Rattle.xpath_values.specs.declared.value.Operand.TheVariants.{Nodes, Text, Number}
use Rattle.xpath_values.specs.Comparisons.{holds, compares}
use Rattle.xpath_values.proofs.Extremes.{below_nan, up_to_nan}

any_member : (p : List ℕ → Bool) (xs : List (List ℕ)) → list_any p xs ≡ true → (x : List ℕ) × Contains xs x × (p x ≡ true)
any_member p [] e = absurd (false≢true e)
any_member p (x ∷ xs) e =
    elim (or_cases (p x) (list_any p xs) e) [
      | inl here ↦ (x, (0, omega arith, refl), here)
      | inr later ↦ (let (y, (k, lt, at), passes) = any_member p xs later in (y, (suc k, omega arith, at), passes))
    ]

member_any : (p : List ℕ → Bool) (xs : List (List ℕ)) (x : List ℕ) (k : ℕ) → k < length xs → slice_index_or xs k x ≡ x → p x ≡ true → list_any p xs ≡ true
member_any p [] x k lt at e = absurd (omega arith)
member_any p (y ∷ xs) x zero lt at e = or_left (p y) (list_any p xs) (ap p at ∙ e)
member_any p (y ∷ xs) x (suc k) lt at e = or_right (p y) (list_any p xs) (member_any p xs x k (omega arith) at e)

abbrev HasPair : CompareOp → List (List ℕ) → List (List ℕ) → Type 0
HasPair op lefts rights = (left : List ℕ) × (right : List ℕ) × Contains lefts left × Contains rights right × (holds op (Text left) (Text right) ≡ true)

pub pair_law : (op : CompareOp) (lefts rights : List (List ℕ)) → (compares op (Nodes lefts) (Nodes rights) ≡ true) ↔ HasPair op lefts rights
pair_law op lefts rights = (
  λ e.
      let (left, in_lefts, e') = any_member (λ l. list_any (λ r. holds op (Text l) (Text r)) rights) lefts e in
      let (right, in_rights, e'') = any_member (λ r. holds op (Text left) (Text r)) rights e' in
      (left, right, in_lefts, in_rights, e''),
  λ (left, right, (i, lt_i, at_i), (k, lt_k, at_k), e).
      member_any (λ l. list_any (λ r. holds op (Text l) (Text r)) rights) lefts left i lt_i at_i (member_any (λ r. holds op (Text left) (Text r)) rights right k lt_k at_k e),
)

pub nan_law : (op : CompareOp) (number : Num) → op ≢ NotEqual → holds op (Number NaN) (Number number) ≡ false
nan_law Equal number other = refl
nan_law NotEqual number other = absurd (other refl)
nan_law Less number other = refl
nan_law LessOrEqual number other = refl
nan_law Greater number other = below_nan number
nan_law GreaterOrEqual number other = up_to_nan number
