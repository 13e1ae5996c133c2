-- The characters at the places of an interval.
use Rattle.std.proofs.Common.{◌≡◌, ℕ, zero, suc, ◌+◌, ◌<◌, ◌≤◌, Bool, true, false, ◌&&◌, List, [], ◌∷◌, map, filter, take, drop, ℤ, pos, ◌+ℤ◌, ◌-ℤ◌, negsuc, ◌^◌, ◌≤ℤ◌, ◌<ℤ◌, Option, Some, None, Fits, w64, to_z, of_z, subst, refl, sym, ◌∙◌, ap, arith}
use Rattle.std.specs.Int.{int_max}
use Rattle.std.specs.Int.RustNames.{int_le, int_lt}
use Rattle.std.specs.List.{enumerate_from}
use Rattle.std.proofs.lemmas.Bool.{cond-true, cond-false, and_from, and_left, and_right}
use Rattle.std.proofs.lemmas.Int.{ints, clamps, to_z-of_z}
use Rattle.std.specs.Option.{option_to_list}
use lib.Dec.{T}
use lib.IntN.{nat_abs}
use lib.Signed.{non_neg}
use mir.Syntax.{w128}
use Rattle.xpath_values.specs.declared.number.Num.{Num}
use Rattle.xpath_values.specs.declared.number.Num.TheVariants.{NaN, Whole}
use Rattle.xpath_values.specs.Texts.{characters_at, is_from, is_before_end, substring}

abbrev kept_from : (ℕ → Bool) → ℕ → List ℕ → List ℕ
kept_from p base text = map (λ c. c.1) (filter (λ c. p c.0) (enumerate_from base text))

kept_yes : (p : ℕ → Bool) (base c : ℕ) (cs : List ℕ) → p base ≡ true → kept_from p base (c ∷ cs) ≡ c ∷ kept_from p (base + 1) cs
kept_yes p base c cs e = ap (map (λ c. c.1)) (cond-true (p base) _ _ e)

kept_no : (p : ℕ → Bool) (base c : ℕ) (cs : List ℕ) → p base ≡ false → kept_from p base (c ∷ cs) ≡ kept_from p (base + 1) cs
kept_no p base c cs e = ap (map (λ c. c.1)) (cond-false (p base) _ _ e)

none_kept : (p : ℕ → Bool) (base : ℕ) (text : List ℕ) → ((k : ℕ) → base ≤ k → p k ≡ false) → kept_from p base text ≡ []
none_kept p base [] h = refl
none_kept p base (c ∷ cs) h = kept_no p base c cs (h base (omega arith)) ∙ none_kept p (base + 1) cs (λ k le. h k (omega arith))

all_kept : (p : ℕ → Bool) (base : ℕ) (text : List ℕ) → ((k : ℕ) → base ≤ k → p k ≡ true) → kept_from p base text ≡ text
all_kept p base [] h = refl
all_kept p base (c ∷ cs) h = kept_yes p base c cs (h base (omega arith)) ∙ ap (λ t. c ∷ t) (all_kept p (base + 1) cs (λ k le. h k (omega arith)))

front_kept : (p : ℕ → Bool) (base left : ℕ) (text : List ℕ) → ((k : ℕ) → base ≤ k → k < base + left → p k ≡ true) → ((k : ℕ) → base + left ≤ k → p k ≡ false) → kept_from p base text ≡ take left text
front_kept p base zero text yes_at no_at = none_kept p base text (λ k le. no_at k (omega arith))
front_kept p base (suc left) [] yes_at no_at = refl
front_kept p base (suc left) (c ∷ cs) yes_at no_at =
    kept_yes p base c cs (yes_at base (omega arith) (omega arith))
    ∙ ap (λ t. c ∷ t) (front_kept p (base + 1) left cs (λ k low high. yes_at k (omega arith) (omega arith)) (λ k low. no_at k (omega arith)))

skip_kept : (p : ℕ → Bool) (base before : ℕ) (text : List ℕ) → ((k : ℕ) → base ≤ k → k < base + before → p k ≡ false) → kept_from p base text ≡ kept_from p (base + before) (drop before text)
skip_kept p base zero text no_at = ap (λ b. kept_from p b text) (omega arith)
skip_kept p base (suc before) [] no_at = refl
skip_kept p base (suc before) (c ∷ cs) no_at =
    kept_no p base c cs (no_at base (omega arith) (omega arith))
    ∙ (skip_kept p (base + 1) before cs (λ k low high. no_at k (omega arith) (omega arith)) ∙ ap (λ b. kept_from p b (drop before cs)) (omega arith))

-- ---- the tests of places
late : (start : ℤ) (before k : ℕ) → pos (before + 1) ≡ int_max start (pos 1) → before + 1 ≤ k → int_le start (pos k) ≡ true
late start before k e le = grind (arith, ints, clamps)

early : (start : ℤ) (before k : ℕ) → pos (before + 1) ≡ int_max start (pos 1) → 1 ≤ k → k < 1 + before → int_le start (pos k) ≡ false
early start before k e one lt = grind (arith, ints, clamps)

inside_end : (start count : ℤ) (before left k : ℕ) → pos (before + 1) ≡ int_max start (pos 1) → pos left ≡ int_max (start +ℤ count -ℤ int_max start (pos 1)) (pos 0) → k < 1 + before + left → before + 1 ≤ k → int_lt (pos k) (start +ℤ count) ≡ true
inside_end start count before left k e f lt le = grind (arith, ints, clamps)

past_end : (start count : ℤ) (before left k : ℕ) → pos (before + 1) ≡ int_max start (pos 1) → pos left ≡ int_max (start +ℤ count -ℤ int_max start (pos 1)) (pos 0) → 1 + before + left ≤ k → int_lt (pos k) (start +ℤ count) ≡ false
past_end start count before left k e f le = grind (arith, ints, clamps)

pub characters_none : (p : ℕ → Bool) (text : List ℕ) → ((k : ℕ) → p k ≡ false) → characters_at p text ≡ []
characters_none p text h = none_kept p 1 text (λ k le. h k)

-- the characters from a start on
pub characters_from : (start : ℤ) (before : ℕ) (text : List ℕ) → pos (before + 1) ≡ int_max start (pos 1) → characters_at (λ place. int_le start (pos place)) text ≡ drop before text
characters_from start before text e =
    skip_kept (λ place. int_le start (pos place)) 1 before text (λ k low high. early start before k e low high)
    ∙ all_kept (λ place. int_le start (pos place)) (1 + before) (drop before text) (λ k le. late start before k e (omega arith))

-- and those before an end
pub characters_between : (start count : ℤ) (before left : ℕ) (text : List ℕ) → pos (before + 1) ≡ int_max start (pos 1) → pos left ≡ int_max (start +ℤ count -ℤ int_max start (pos 1)) (pos 0) →
    characters_at (λ place. int_le start (pos place) && int_lt (pos place) (start +ℤ count)) text ≡ take left (drop before text)
characters_between start count before left text e f =
    let p : ℕ → Bool = λ place. int_le start (pos place) && int_lt (pos place) (start +ℤ count) in
    skip_kept p 1 before text (λ k low high. and_left (int_le start (pos k)) (int_lt (pos k) (start +ℤ count)) (early start before k e low high))
    ∙ front_kept p (1 + before) left (drop before text)
    (λ k low high. and_from (int_le start (pos k)) (int_lt (pos k) (start +ℤ count)) (late start before k e (omega arith)) (inside_end start count before left k e f high (omega arith)))
    (λ k low. and_right (int_le start (pos k)) (int_lt (pos k) (start +ℤ count)) (past_end start count before left k e f low))

-- ---- `substring` by its arguments
pub substring_nan : (text : List ℕ) (count : Option Num) → substring text (NaN ∷ option_to_list count) ≡ []
substring_nan text None = characters_none (is_from NaN) text (λ k. refl)
substring_nan text (Some count) = characters_none (λ place. is_from NaN place && is_before_end NaN count place) text (λ k. refl)

pub substring_nan_count : (text : List ℕ) (start : ℤ) → substring text (Whole start ∷ NaN ∷ []) ≡ []
substring_nan_count text start = characters_none (λ place. is_from (Whole start) place && is_before_end (Whole start) NaN place) text (λ k. and_right (int_le start (pos k)) false refl)

-- a size that is cast from 128 bits
pub cast_size : (m : ℤ) → pos 0 ≤ℤ m → m <ℤ pos (2 ^ 64) → T (non_neg (to_z w128 (of_z w128 m))) × Fits w64 (nat_abs (to_z w128 (of_z w128 m))) × (pos (nat_abs (to_z w128 (of_z w128 m))) ≡ m)
cast_size (negsuc n) low high = absurd (omega (arith, ints))
cast_size (pos n) low high =
    let below : n < 2 ^ 64 = omega (arith, ints) in
    let same : to_z w128 (of_z w128 (pos n)) ≡ pos n = to_z-of_z w128 (pos n) (record { sfits = omega arith }) in
    subst (λ z. T (non_neg z) × Fits w64 (nat_abs z) × (pos (nat_abs z) ≡ pos n)) (sym same) (tt, record { fits = below }, refl)

pub substring_whole : (text : List ℕ) → substring text (Whole (pos 1) ∷ []) ≡ text
substring_whole text = characters_from (pos 1) 0 text refl
