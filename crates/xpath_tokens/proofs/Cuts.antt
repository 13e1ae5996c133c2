-- A token begins and ends between two characters.
use Rattle.std.proofs.Common.{◌≡◌, ◌<◌, ◌≤◌, ◌+◌, ◌-◌, ◌==◌, ◌&&◌, ◌||◌, ℕ, zero, suc, Bool, true, false, not, cond, nat_lt, List, [], ◌∷◌, ◌++◌, length, take, drop, get_or, Option, Some, None, sym, refl, ap, ◌∙◌, subst, inl, inr, arith}
use Rattle.std.specs.List.{position_or_len, AllByRecursion}
use Rattle.std.specs.Str.{IsUtf8, IsCharBoundary}
use Rattle.std.proofs.lemmas.Bool.{cases_lt}
use Rattle.std.proofs.lemmas.Bool.Decides.{nat_tests}
use Rattle.std.proofs.lemmas.List.{drop_all}
use Rattle.std.proofs.lemmas.List.Sums.{prefix_len-le-length, fails_before_first, passes_at_first}
use Rattle.std.proofs.lemmas.Str.{IsCharBoundary-start, IsCharBoundary-end, IsCharBoundary-before_ascii, IsCharBoundary-after_ascii, IsCharBoundary-from_rest, IsUtf8-drop}
use Rattle.std.proofs.Math.Seq.{drop-cons}
use Rattle.xpath_tokens.proofs.Comparing.{less, not_less}
use Rattle.xpath_tokens.specs.declared.tokens.Kind.{Kind}
use Rattle.xpath_tokens.specs.declared.tokens.Kind.TheVariants as kind
use Rattle.xpath_tokens.specs.declared.tokens.Token.{Token}
use Rattle.serna_kinds.specs.Blanks.{is_space}
use Rattle.serna_kinds.specs.Qualified.{is_digit, begins_name, continues_name}
use Rattle.xpath_tokens.specs.Tokens.{run, local_length, qualified, name_length, begins_any, literal, counted, pointed, number, variable, operator_named, operator_or_wrong, named, word, pair_at, single_at, single_or_wrong, pair_or_single, mark, begins_number, front, wrong, token_at, IsCut}

run-le : (p : ℕ → Bool) (text : List ℕ) → run p text ≤ length text
run-le p text = prefix_len-le-length _ text

not_false : (b : Bool) → not b ≡ false → b ≡ true
not_false true e = refl
not_false false e = cc

not_true : (b : Bool) → not b ≡ true → b ≡ false
not_true true e = cc
not_true false e = refl

-- behind a run of ASCII
ascii_run : (p : ℕ → Bool) → ((b : ℕ) → p b ≡ true → b < 128) → (text : List ℕ) → IsUtf8 text → IsCharBoundary text (run p text)
ascii_run p low text u = go (run p text) refl
  where
    go : (n : ℕ) → run p text ≡ n → IsCharBoundary text n
    go zero e = IsCharBoundary-start text u
    go (suc m) e =
        let le = run-le p text in
        let inside : m < length text = omega arith in
        let earlier : m < position_or_len (λ b. not (p b)) text = omega (arith, e) in
        let passes : p (get_or text m 0) ≡ true = not_false (p (get_or text m 0)) (fails_before_first (λ b. not (p b)) text m 0 earlier) in
        let same : m + 1 ≡ suc m = omega arith in
        subst (IsCharBoundary text) same (IsCharBoundary-after_ascii text m u inside (low (get_or text m 0) passes))

digit_low : (b : ℕ) → is_digit b ≡ true → b < 128
digit_low b h = grind (arith, nat_tests)

name_high : (b : ℕ) → continues_name b ≡ false → b < 128
name_high b h = grind (arith, nat_tests)

-- behind a local name
local_boundary : (text : List ℕ) → IsUtf8 text → IsCharBoundary text (local_length text)
local_boundary [] u = IsCharBoundary-start [] u
local_boundary (b ∷ rest) u = go (begins_name b) refl
  where
    n : ℕ
    n = run continues_name rest

    behind_name : IsCharBoundary (b ∷ rest) (suc (run continues_name rest))
    behind_name = elim (cases_lt (run continues_name rest) (length rest)) [
      | inl lt ↦
          (let stops : continues_name (get_or rest (run continues_name rest) 0) ≡ false =
          not_true (continues_name (get_or rest (run continues_name rest) 0)) (passes_at_first (λ c. not (continues_name c)) rest 0 lt) in
          IsCharBoundary-before_ascii (b ∷ rest) (suc (run continues_name rest)) (omega arith) (name_high (get_or rest (run continues_name rest) 0) stops))
      | inr ge ↦
          (let le = run-le continues_name rest in
          let same : suc (length rest) ≡ suc (run continues_name rest) = omega arith in
          subst (IsCharBoundary (b ∷ rest)) same (IsCharBoundary-end (b ∷ rest)))
    ]

    go : (v : Bool) → begins_name b ≡ v → IsCharBoundary (b ∷ rest) (cond v (suc (run continues_name rest)) 0)
    go true e = behind_name
    go false e = IsCharBoundary-start (b ∷ rest) u

-- an ASCII byte at a place, with what is behind it
pub record IsAt (text : List ℕ) (n c : ℕ) (rest : List ℕ) : Type 0 where
  pub inside : n < length text
  pub byte : get_or text n 0 ≡ c
  pub behind : drop (n + 1) text ≡ rest

pub is_at : (text : List ℕ) (n c : ℕ) (rest : List ℕ) → drop n text ≡ c ∷ rest → IsAt text n c rest
is_at text n c rest e =
    elim (cases_lt n (length text)) [
      | inl lt ↦
          (let parts = drop-cons text n 0 lt in
          let both : get_or text n 0 ∷ drop (suc n) text ≡ c ∷ rest = sym parts ∙ e in
          let next : n + 1 ≡ suc n = omega arith in
          record { inside = lt; byte = cc; behind = ap (λ k. drop k text) next ∙ cc })
      | inr ge ↦ (let none : [] ≡ c ∷ rest = sym (drop_all n text ge) ∙ e in cc)
    ]

-- behind an ASCII byte at a place, and so much more
beyond : (text : List ℕ) (n c m : ℕ) (rest : List ℕ) → IsUtf8 text → IsAt text n c rest → c < 128 → (IsUtf8 rest → IsCharBoundary rest m) → IsCharBoundary text (n + suc m)
beyond text n c m rest u w low more =
    let byte : get_or text n 0 < 128 = subst (λ b. b < 128) (sym w.byte) low in
    let after = IsCharBoundary-after_ascii text n u w.inside byte in
    let utf8 : IsUtf8 rest = subst IsUtf8 w.behind (IsUtf8-drop text (n + 1) u after) in
    let same : n + 1 + m ≡ n + suc m = omega arith in
    let inside = w.inside in
    subst (IsCharBoundary text) same (IsCharBoundary-from_rest text (n + 1) m (omega arith) (subst (λ l. IsCharBoundary l m) (sym w.behind) (more utf8)))

both_true : (a b : Bool) → (a && b) ≡ true → (a ≡ true) × (b ≡ true)
both_true true b e = (refl, e)
both_true false b e = cc

is_equal : (a b : ℕ) → (a == b) ≡ true → a ≡ b
is_equal a b h = grind (arith, nat_tests)

name_boundary : (text : List ℕ) → IsUtf8 text → IsCharBoundary text (name_length text)
name_boundary text u = go (nat_lt 0 (local_length text))
  where
    n : ℕ
    n = local_length text

    rest_of : (l : List ℕ) → drop (local_length text) text ≡ l → IsCharBoundary text (qualified (local_length text) l)
    rest_of [] e = local_boundary text u
    rest_of (c ∷ rest) e = colon ((c == 58) && nat_lt 0 (local_length rest)) refl
      where
        colon : (v : Bool) → ((c == 58) && nat_lt 0 (local_length rest)) ≡ v → IsCharBoundary text (cond v (local_length text + suc (local_length rest)) (local_length text))
        colon true f =
            let is : c ≡ 58 = is_equal c 58 (both_true (c == 58) (nat_lt 0 (local_length rest)) f).0 in
            beyond text (local_length text) c (local_length rest) rest u (is_at text (local_length text) c rest e) (omega arith) (local_boundary rest)
        colon false f = local_boundary text u

    go : (v : Bool) → IsCharBoundary text (cond v (qualified (local_length text) (drop (local_length text) text)) 0)
    go true = rest_of (drop (local_length text) text) refl
    go false = IsCharBoundary-start text u

wrong_boundary : (text : List ℕ) → IsCharBoundary text (wrong text).1
wrong_boundary text = IsCharBoundary-end text

counted_boundary : (is : Kind) (digits size : ℕ) (text : List ℕ) → IsCharBoundary text size → IsCharBoundary text (counted is digits size text).1
counted_boundary is digits size text b = go (nat_lt 15 digits)
  where
    go : (v : Bool) → IsCharBoundary text (let t : Kind × ℕ = cond v (wrong text) (is, size) in t.1)
    go true = wrong_boundary text
    go false = b

number_boundary : (text : List ℕ) → IsUtf8 text → IsCharBoundary text (number text).1
number_boundary text u = go (drop (run is_digit text) text) refl
  where
    whole : IsCharBoundary text (run is_digit text)
    whole = ascii_run is_digit digit_low text u

    go : (l : List ℕ) → drop (run is_digit text) text ≡ l → IsCharBoundary text (pointed (run is_digit text) l text).1
    go [] e = counted_boundary kind.Number (run is_digit text) (run is_digit text) text whole
    go (c ∷ rest) e = point (c == 46) refl
      where
        n : ℕ
        n = run is_digit text

        point : (v : Bool) → (c == 46) ≡ v
            → IsCharBoundary text (let t : Kind × ℕ = cond v (counted kind.Fraction (run is_digit text + run is_digit rest) (run is_digit text + suc (run is_digit rest)) text) (counted kind.Number (run is_digit text) (run is_digit text) text) in t.1)
        point true f =
            let is : c ≡ 46 = is_equal c 46 f in
            counted_boundary kind.Fraction (run is_digit text + run is_digit rest) (run is_digit text + suc (run is_digit rest)) text
            (beyond text (run is_digit text) c (run is_digit rest) rest u (is_at text (run is_digit text) c rest e) (omega arith) (ascii_run is_digit digit_low rest))
        point false f = counted_boundary kind.Number (run is_digit text) (run is_digit text) text whole

-- behind an ASCII byte at the front, and so much more
past_first : (b m : ℕ) (rest : List ℕ) → IsUtf8 (b ∷ rest) → b < 128 → (IsUtf8 rest → IsCharBoundary rest m) → IsCharBoundary (b ∷ rest) (suc m)
past_first b m rest u low more =
    let same : 0 + suc m ≡ suc m = omega arith in
    subst (IsCharBoundary (b ∷ rest)) same (beyond (b ∷ rest) 0 b m rest u (is_at (b ∷ rest) 0 b rest refl) low more)

one_boundary : (b : ℕ) (rest : List ℕ) → IsUtf8 (b ∷ rest) → b < 128 → IsCharBoundary (b ∷ rest) 1
one_boundary b rest u low = past_first b 0 rest u low (λ v. IsCharBoundary-start rest v)

literal_boundary : (quote : ℕ) (rest : List ℕ) → quote < 128 → IsUtf8 (quote ∷ rest) → IsCharBoundary (quote ∷ rest) (literal quote rest).1
literal_boundary quote rest low u =
    elim (cases_lt (position_or_len (λ c. c == quote) rest) (length rest)) [ inl lt ↦ inside lt | inr ge ↦ outside ge ]
  where
    n : ℕ
    n = position_or_len (λ c. c == quote) rest

    is : nat_lt n (length rest) ≡ true → IsCharBoundary (quote ∷ rest) (n + 2) → IsCharBoundary (quote ∷ rest) (literal quote rest).1
    is e b = subst (λ (t : Kind × ℕ). IsCharBoundary (quote ∷ rest) t.1) (ap (λ v. cond v (kind.Literal, n + 2) (kind.Wrong, suc (length rest))) (sym e)) b

    inside : n < length rest → IsCharBoundary (quote ∷ rest) (literal quote rest).1
    inside lt =
        let found : get_or rest n 0 ≡ quote = is_equal (get_or rest n 0) quote (passes_at_first (λ c. c == quote) rest 0 lt) in
        let byte : get_or rest n 0 < 128 = subst (λ b. b < 128) (sym found) low in
        let same : suc (n + 1) ≡ n + 2 = omega arith in
        is (less n (length rest) lt) (subst (IsCharBoundary (quote ∷ rest)) same (past_first quote (n + 1) rest u low (λ v. IsCharBoundary-after_ascii rest n v lt byte)))

    outside : length rest ≤ n → IsCharBoundary (quote ∷ rest) (literal quote rest).1
    outside ge = subst (λ (t : Kind × ℕ). IsCharBoundary (quote ∷ rest) t.1) (ap (λ v. cond v (kind.Literal, n + 2) (kind.Wrong, suc (length rest))) (sym (not_less n (length rest) ge))) (IsCharBoundary-end (quote ∷ rest))

variable_boundary : (b : ℕ) (rest : List ℕ) → IsUtf8 (b ∷ rest) → b < 128 → IsCharBoundary (b ∷ rest) (variable rest).1
variable_boundary b rest u low = go (nat_lt 0 (name_length rest))
  where
    go : (v : Bool) → IsCharBoundary (b ∷ rest) (let t : Kind × ℕ = cond v (kind.Variable, suc (name_length rest)) (kind.Wrong, suc (length rest)) in t.1)
    go true = past_first b (name_length rest) rest u low (λ v. name_boundary rest v)
    go false = IsCharBoundary-end (b ∷ rest)

operator_boundary : (o : Option Kind) (n : ℕ) (text : List ℕ) → IsCharBoundary text n → IsCharBoundary text (operator_or_wrong o n text).1
operator_boundary None n text b = wrong_boundary text
operator_boundary (Some operator) n text b = b

named_boundary : (behind : Bool) (n : ℕ) (text : List ℕ) → IsCharBoundary text n → IsCharBoundary text (named behind n text).1
named_boundary true n text b = operator_boundary (operator_named (take n text)) n text b
named_boundary false n text b = b

any_boundary : (text : List ℕ) (n : ℕ) → IsUtf8 text → (l : List ℕ) → drop n text ≡ l → begins_any l ≡ true → IsCharBoundary text (n + 2)
any_boundary text n u [] e f = cc
any_boundary text n u (c ∷ []) e f = cc
any_boundary text n u (c ∷ d ∷ rest) e f =
    let tests = both_true (c == 58) (d == 42) f in
    let colon : c ≡ 58 = is_equal c 58 tests.0 in
    let any : d ≡ 42 = is_equal d 42 tests.1 in
    let same : n + suc 1 ≡ n + 2 = omega arith in
    subst (IsCharBoundary text) same (beyond text n c 1 (d ∷ rest) u (is_at text n c (d ∷ rest) e) (omega arith) (λ v. one_boundary d rest v (omega arith)))

word_boundary : (behind : Bool) (text : List ℕ) → IsUtf8 text → IsCharBoundary text (word behind text).1
word_boundary behind text u = go (begins_any (drop (local_length text) text)) refl
  where
    go : (v : Bool) → begins_any (drop (local_length text) text) ≡ v → IsCharBoundary text (let t : Kind × ℕ = cond v (kind.Within, local_length text + 2) (named behind (name_length text) text) in t.1)
    go true e = any_boundary text (local_length text) u (drop (local_length text) text) refl e
    go false e = named_boundary behind (name_length text) text (name_boundary text u)

tested : (b n : ℕ) (x y : Option Kind) (k : Kind) → n < 128 → (y ≡ Some k → b < 128) → cond (b == n) x y ≡ Some k → b < 128
tested b n x y k low other e = go (b == n) refl e
  where
    go : (v : Bool) → (b == n) ≡ v → cond v x y ≡ Some k → b < 128
    go true f g = let same = is_equal b n f in omega arith
    go false f g = other g

single_low : (b : ℕ) (k : Kind) → single_at b ≡ Some k → b < 128
single_low b k =
    (tested b 40 _ _ k (omega arith)
    (tested b 41 _ _ k (omega arith)
    (tested b 91 _ _ k (omega arith)
    (tested b 93 _ _ k (omega arith)
    (tested b 46 _ _ k (omega arith)
    (tested b 64 _ _ k (omega arith)
    (tested b 44 _ _ k (omega arith)
    (tested b 47 _ _ k (omega arith)
    (tested b 124 _ _ k (omega arith)
    (tested b 43 _ _ k (omega arith)
    (tested b 45 _ _ k (omega arith)
    (tested b 61 _ _ k (omega arith)
    (tested b 60 _ _ k (omega arith)
    (tested b 62 _ _ k (omega arith)
    (λ e. cc)))))))))))))))

tested_both : (a b m n : ℕ) (x y : Option Kind) (k : Kind) → n < 128 → m < 128 → (y ≡ Some k → (a < 128) × (b < 128)) → cond ((a == m) && (b == n)) x y ≡ Some k → (a < 128) × (b < 128)
tested_both a b m n x y k low lower other e = go ((a == m) && (b == n)) refl e
  where
    go : (v : Bool) → ((a == m) && (b == n)) ≡ v → cond v x y ≡ Some k → (a < 128) × (b < 128)
    go true f g =
        let tests = both_true (a == m) (b == n) f in
        let first = is_equal a m tests.0 in
        let second = is_equal b n tests.1 in (omega arith, omega arith)
    go false f g = other g

pair_low : (a b : ℕ) (k : Kind) → pair_at a b ≡ Some k → (a < 128) × (b < 128)
pair_low a b k =
    (tested_both a b 58 58 _ _ k (omega arith) (omega arith)
    (tested_both a b 46 46 _ _ k (omega arith) (omega arith)
    (tested_both a b 47 47 _ _ k (omega arith) (omega arith)
    (tested_both a b 33 61 _ _ k (omega arith) (omega arith)
    (tested_both a b 60 61 _ _ k (omega arith) (omega arith)
    (tested_both a b 62 61 _ _ k (omega arith) (omega arith)
    (λ e. cc)))))))

single_boundary : (b : ℕ) (rest : List ℕ) → IsUtf8 (b ∷ rest) → IsCharBoundary (b ∷ rest) (single_or_wrong (single_at b) (b ∷ rest)).1
single_boundary b rest u = go (single_at b) refl
  where
    go : (o : Option Kind) → single_at b ≡ o → IsCharBoundary (b ∷ rest) (single_or_wrong o (b ∷ rest)).1
    go None e = wrong_boundary (b ∷ rest)
    go (Some k) e = one_boundary b rest u (single_low b k e)

mark_boundary : (text : List ℕ) → IsUtf8 text → IsCharBoundary text (mark text).1
mark_boundary [] u = wrong_boundary []
mark_boundary (b ∷ []) u = single_boundary b [] u
mark_boundary (b ∷ c ∷ rest) u = go (pair_at b c) refl
  where
    go : (o : Option Kind) → pair_at b c ≡ o → IsCharBoundary (b ∷ c ∷ rest) (pair_or_single o b (b ∷ c ∷ rest)).1
    go None e = single_boundary b (c ∷ rest) u
    go (Some k) e = let low = pair_low b c k e in past_first b 1 (c ∷ rest) u low.0 (λ v. one_boundary c rest v low.1)

quote_low : (b : ℕ) → ((b == 34) || (b == 39)) ≡ true → b < 128
quote_low b h = grind (arith, nat_tests)

-- a token ends between two characters
pub front_boundary : (behind : Bool) (text : List ℕ) → IsUtf8 text → IsCharBoundary text (front behind text).1
front_boundary behind [] u = wrong_boundary []
front_boundary behind (b ∷ rest) u =
    choice ((b == 34) || (b == 39)) _ _ (λ e. literal_boundary b rest (quote_low b e) u)
    (choice (begins_number (b ∷ rest)) _ _ (λ e. number_boundary (b ∷ rest) u)
    (choice (b == 36) _ _ (λ e. variable_boundary b rest u (let same = is_equal b 36 e in omega arith))
    (choice (begins_name b) _ _ (λ e. word_boundary behind (b ∷ rest) u)
    (choice (b == 42) _ _ (λ e. one_boundary b rest u (let same = is_equal b 42 e in omega arith))
    (mark_boundary (b ∷ rest) u)))))
  where
    choice : (v : Bool) (x y : Kind × ℕ) → (v ≡ true → IsCharBoundary (b ∷ rest) x.1) → IsCharBoundary (b ∷ rest) y.1 → IsCharBoundary (b ∷ rest) (let t : Kind × ℕ = cond v x y in t.1)
    choice true x y f g = f refl
    choice false x y f g = g

space_low : (b : ℕ) → is_space b ≡ true → b < 128
space_low b h = grind (arith, nat_tests)

pub cut_first : (text : List ℕ) → IsUtf8 text → IsCharBoundary text 0
cut_first text u = IsCharBoundary-start text u

pub cut_space : (text : List ℕ) (at : ℕ) → IsUtf8 text → at < length text → is_space (get_or text at 0) ≡ true → IsCharBoundary text (at + 1)
cut_space text at u lt is = IsCharBoundary-after_ascii text at u lt (space_low (get_or text at 0) is)

front_cut : (text : List ℕ) (behind : Bool) (at : ℕ) (t : Kind × ℕ) → IsUtf8 text → IsCharBoundary text at → t ≡ front behind (drop at text) → IsCharBoundary (drop at text) t.1
front_cut text behind at t u cut e = subst (λ (x : Kind × ℕ). IsCharBoundary (drop at text) x.1) (sym e) (front_boundary behind (drop at text) (IsUtf8-drop text at u cut))

pub cut_token : (text : List ℕ) (behind : Bool) (at : ℕ) (t : Kind × ℕ) → IsUtf8 text → IsCharBoundary text at → t ≡ front behind (drop at text) → IsCharBoundary text (at + t.1)
cut_token text behind at t u cut e = IsCharBoundary-from_rest text at t.1 cut.0 (front_cut text behind at t u cut e)

pub is_cut : (text : List ℕ) (behind : Bool) (at : ℕ) (t : Kind × ℕ) → IsUtf8 text → IsCharBoundary text at → t ≡ front behind (drop at text) → IsCut text (token_at at t)
is_cut text behind at t u cut e =
    let same : at + t.1 - at ≡ t.1 = omega arith in (omega arith, cut, subst (IsCharBoundary (drop at text)) (sym same) (front_cut text behind at t u cut e))

pub all_cut : (text : List ℕ) (tokens : List Token) (t : Token) → AllByRecursion (IsCut text) tokens → IsCut text t → AllByRecursion (IsCut text) (tokens ++ t ∷ [])
all_cut text [] t all is = (is, tt)
all_cut text (u ∷ us) t all is = (all.0, all_cut text us t all.1 is)
