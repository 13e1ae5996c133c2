-- A comparison and the turned one.
use Rattle.std.proofs.Common.{◌≡◌, ℕ, Bool, true, false, not, ◌||◌, ◌&&◌, List, [], ◌∷◌, bytes_eq, refl, sym, ◌∙◌, ap}
use Rattle.std.specs.Int.RustNames.{int_le}
use Rattle.std.specs.List.{list_any}
use Rattle.std.proofs.lemmas.Slice.Eq.{bytes_eq-Decides}
use Rattle.serna_kinds.specs.declared.expressions.CompareOp.{CompareOp}
use Rattle.serna_kinds.specs.declared.expressions.CompareOp.TheVariants.{Equal, NotEqual, Less, LessOrEqual, Greater, GreaterOrEqual}
use Rattle.xpath_values.specs.declared.number.Num.{Num}
use Rattle.xpath_values.specs.declared.number.Num.TheVariants.{NaN, Whole}
use Rattle.xpath_values.specs.declared.value.Operand.{Operand}
use Rattle.xpath_values.specs.declared.value.Operand.TheVariants.{Nodes, Text, Number, Truth}
use Rattle.xpath_values.specs.Numbers.{are_equal}
use Rattle.xpath_values.specs.Values.{is_empty, operand_truth, operand_number, operand_text}
use Rattle.xpath_values.specs.Comparisons.{same_truth, is_equal, holds, compares}
use Rattle.xpath_values.proofs.Extremes.{any_same}
use Rattle.xpath_values.proofs.Places.{same_tests}

same_truth_turned : (a b : Bool) → same_truth a b ≡ same_truth b a
same_truth_turned true true = refl
same_truth_turned true false = refl
same_truth_turned false true = refl
same_truth_turned false false = refl

and_turned : (a b : Bool) → (a && b) ≡ (b && a)
and_turned true true = refl
and_turned true false = refl
and_turned false true = refl
and_turned false false = refl

are_equal_turned : (x y : Num) → are_equal x y ≡ are_equal y x
are_equal_turned NaN NaN = refl
are_equal_turned NaN (Whole b) = refl
are_equal_turned (Whole a) NaN = refl
are_equal_turned (Whole a) (Whole b) = and_turned (int_le a b) (int_le b a)

bytes_turned : (xs ys : List ℕ) → bytes_eq xs ys ≡ bytes_eq ys xs
bytes_turned xs ys =
    same_tests (bytes_eq xs ys) (bytes_eq ys xs)
    (λ e. (bytes_eq-Decides ys xs).1 (sym ((bytes_eq-Decides xs ys).0 e)))
    (λ e. (bytes_eq-Decides xs ys).1 (sym ((bytes_eq-Decides ys xs).0 e)))

is_equal_turned : (left right : Operand) → is_equal left right ≡ is_equal right left
is_equal_turned (Truth a) (Truth b) = same_truth_turned (operand_truth (Truth a)) (operand_truth (Truth b))
is_equal_turned (Truth a) (Number y) = same_truth_turned (operand_truth (Truth a)) (operand_truth (Number y))
is_equal_turned (Truth a) (Text t) = same_truth_turned (operand_truth (Truth a)) (operand_truth (Text t))
is_equal_turned (Truth a) (Nodes ts) = same_truth_turned (operand_truth (Truth a)) (operand_truth (Nodes ts))
is_equal_turned (Number x) (Truth b) = same_truth_turned (operand_truth (Number x)) (operand_truth (Truth b))
is_equal_turned (Number x) (Number y) = are_equal_turned (operand_number (Number x)) (operand_number (Number y))
is_equal_turned (Number x) (Text t) = are_equal_turned (operand_number (Number x)) (operand_number (Text t))
is_equal_turned (Number x) (Nodes ts) = are_equal_turned (operand_number (Number x)) (operand_number (Nodes ts))
is_equal_turned (Text s) (Truth b) = same_truth_turned (operand_truth (Text s)) (operand_truth (Truth b))
is_equal_turned (Text s) (Number y) = are_equal_turned (operand_number (Text s)) (operand_number (Number y))
is_equal_turned (Text s) (Text t) = bytes_turned (operand_text (Text s)) (operand_text (Text t))
is_equal_turned (Text s) (Nodes ts) = bytes_turned (operand_text (Text s)) (operand_text (Nodes ts))
is_equal_turned (Nodes ss) (Truth b) = same_truth_turned (operand_truth (Nodes ss)) (operand_truth (Truth b))
is_equal_turned (Nodes ss) (Number y) = are_equal_turned (operand_number (Nodes ss)) (operand_number (Number y))
is_equal_turned (Nodes ss) (Text t) = bytes_turned (operand_text (Nodes ss)) (operand_text (Text t))
is_equal_turned (Nodes ss) (Nodes ts) = bytes_turned (operand_text (Nodes ss)) (operand_text (Nodes ts))

-- ---- pairs in the other order
or_swap : (a b c d : Bool) → ((a || b) || (c || d)) ≡ ((a || c) || (b || d))
or_swap true b c d = refl
or_swap false true true d = refl
or_swap false false true d = refl
or_swap false true false d = refl
or_swap false false false d = refl

any_or : (p q : List ℕ → Bool) (xs : List (List ℕ)) → list_any (λ x. p x || q x) xs ≡ (list_any p xs || list_any q xs)
any_or p q [] = refl
any_or p q (x ∷ xs) = ap (λ b. (p x || q x) || b) (any_or p q xs) ∙ or_swap (p x) (q x) (list_any p xs) (list_any q xs)

any_none : (xs : List (List ℕ)) → list_any (λ x. false) xs ≡ false
any_none [] = refl
any_none (x ∷ xs) = any_none xs

pairs_turned : (f g : List ℕ → List ℕ → Bool) → ((x y : List ℕ) → f x y ≡ g y x) → (xs ys : List (List ℕ)) → list_any (λ x. list_any (λ y. f x y) ys) xs ≡ list_any (λ y. list_any (λ x. g y x) xs) ys
pairs_turned f g h [] ys = sym (any_none ys)
pairs_turned f g h (x ∷ xs) ys =
    ap (λ b. b || list_any (λ x'. list_any (λ y. f x' y) ys) xs) (any_same (λ y. f x y) (λ y. g y x) (λ y. h x y) ys)
    ∙ (ap (λ b. list_any (λ y. g y x) ys || b) (pairs_turned f g h xs ys) ∙ sym (any_or (λ y. g y x) (λ y. list_any (λ x'. g y x') xs) ys))

-- ---- a comparison whose turned one is another
turned : (op po : CompareOp) → ((left right : Operand) → holds op left right ≡ holds po right left) → (left right : Operand) → compares op left right ≡ compares po right left
turned op po h (Nodes ss) (Nodes ts) = pairs_turned (λ s t. holds op (Text s) (Text t)) (λ t s. holds po (Text t) (Text s)) (λ s t. h (Text s) (Text t)) ss ts
turned op po h (Nodes ss) (Truth b) = h (Truth (not (is_empty ss))) (Truth b)
turned op po h (Nodes ss) (Text t) = any_same _ _ (λ s. h (Text s) (Text t)) ss
turned op po h (Nodes ss) (Number y) = any_same _ _ (λ s. h (Text s) (Number y)) ss
turned op po h (Truth a) (Nodes ts) = h (Truth a) (Truth (not (is_empty ts)))
turned op po h (Text s) (Nodes ts) = any_same _ _ (λ t. h (Text s) (Text t)) ts
turned op po h (Number x) (Nodes ts) = any_same _ _ (λ t. h (Number x) (Text t)) ts
turned op po h (Truth a) (Truth b) = h (Truth a) (Truth b)
turned op po h (Truth a) (Text t) = h (Truth a) (Text t)
turned op po h (Truth a) (Number y) = h (Truth a) (Number y)
turned op po h (Text s) (Truth b) = h (Text s) (Truth b)
turned op po h (Text s) (Text t) = h (Text s) (Text t)
turned op po h (Text s) (Number y) = h (Text s) (Number y)
turned op po h (Number x) (Truth b) = h (Number x) (Truth b)
turned op po h (Number x) (Text t) = h (Number x) (Text t)
turned op po h (Number x) (Number y) = h (Number x) (Number y)

pub equal_turned : (left right : Operand) → compares Equal left right ≡ compares Equal right left
equal_turned = turned Equal Equal is_equal_turned

pub not_equal_turned : (left right : Operand) → compares NotEqual left right ≡ compares NotEqual right left
not_equal_turned = turned NotEqual NotEqual (λ left right. ap not (is_equal_turned left right))

pub less_turned : (left right : Operand) → compares Less left right ≡ compares Greater right left
less_turned = turned Less Greater (λ left right. refl)

pub less_or_equal_turned : (left right : Operand) → compares LessOrEqual left right ≡ compares GreaterOrEqual right left
less_or_equal_turned = turned LessOrEqual GreaterOrEqual (λ left right. refl)
