-- Names and numbers at the front of a text.
use Rattle.std.proofs.Common.{◌≡◌, ◌+◌, ◌==◌, ◌&&◌, ◌||◌, ℕ, suc, not, Bool, true, false, cond, nat_lt, IsTrue, List, [], ◌∷◌, ◌++◌, length, drop, refl, ap, ◌∙◌, arith}
use Rattle.std.specs.List.{AllByRecursion}
use Rattle.std.proofs.lemmas.Bool.Decides.{nat_tests}
use Rattle.std.proofs.Math.Seq.{drop-append_seam}
use Rattle.serna_kinds.specs.Qualified.{is_digit, begins_name, continues_name}
use Rattle.xpath_tokens.specs.declared.tokens.Kind.{Kind}
use Rattle.xpath_tokens.specs.declared.tokens.Kind.TheVariants as kind
use Rattle.xpath_tokens.specs.Spelling.{IsLocalName}
use Rattle.xpath_tokens.specs.Tokens.{run, local_length, name_length, begins_any, begins_digit, begins_number, named, word, variable, literal, number, mark, star, front, name_before}

-- Runs and names in front of a byte that ends them

pub run_stops : (p : ℕ → Bool) (xs : List ℕ) (c : ℕ) (l : List ℕ) → AllByRecursion (λ b. IsTrue (p b)) xs → p c ≡ false → run p (xs ++ c ∷ l) ≡ length xs
run_stops p [] c l all stops = ap (λ v. cond (not (not v)) (1 + run p l) 0) stops
run_stops p (x ∷ xs) c l all stops =
    let more : 1 + length xs ≡ suc (length xs) = omega arith in
    ap (λ v. cond (not (not v)) (1 + run p (xs ++ c ∷ l)) 0) all.0 ∙ ap (λ n. 1 + n) (run_stops p xs c l all.1 stops) ∙ more

pub local_stops : (s : List ℕ) (c : ℕ) (l : List ℕ) → IsLocalName s → continues_name c ≡ false → local_length (s ++ c ∷ l) ≡ length s
local_stops [] c l is stops = absurd is
local_stops (b ∷ bs) c l is stops = ap (λ v. cond v (suc (run continues_name (bs ++ c ∷ l))) 0) is.0 ∙ ap suc (run_stops continues_name bs c l is.1 stops)

pub some_local : (s : List ℕ) → IsLocalName s → nat_lt 0 (length s) ≡ true
some_local [] is = absurd is
some_local (b ∷ bs) is = go (length bs)
  where
    go : (n : ℕ) → nat_lt 0 (suc n) ≡ true
    go n = grind (arith, nat_tests)

not_star : (b : ℕ) → begins_name b ≡ true → (b == 42) ≡ false
not_star b h = grind (arith, nat_tests)

pub colon_any : (s : List ℕ) (l : List ℕ) → IsLocalName s → begins_any (58 ∷ (s ++ l)) ≡ false
colon_any [] l is = absurd is
colon_any (b ∷ bs) l is = not_star b is.0

pub within_word : (behind : Bool) (p l : List ℕ) → IsLocalName p → word behind (p ++ (58 ∷ 42 ∷ l)) ≡ (kind.Within, length p + 2)
within_word behind p l is =
    let text = p ++ (58 ∷ 42 ∷ l) in
    let n = local_stops p 58 (42 ∷ l) is refl in
    ap (λ k. cond (begins_any (drop k text)) (kind.Within, k + 2) (named behind (name_length text) text)) n
    ∙ ap (λ t. cond (begins_any t) (kind.Within, length p + 2) (named behind (name_length text) text)) (drop-append_seam p (58 ∷ 42 ∷ l))

-- The token at the front

no_quote : (b : ℕ) → begins_name b ≡ true → ((b == 34) || (b == 39)) ≡ false
no_quote b h = grind (arith, nat_tests)

no_digit : (b : ℕ) → begins_name b ≡ true → is_digit b ≡ false
no_digit b h = grind (arith, nat_tests)

no_point : (b : ℕ) → begins_name b ≡ true → (b == 46) ≡ false
no_point b h = grind (arith, nat_tests)

no_dollar : (b : ℕ) → begins_name b ≡ true → (b == 36) ≡ false
no_dollar b h = grind (arith, nat_tests)

digit_no_quote : (b : ℕ) → is_digit b ≡ true → ((b == 34) || (b == 39)) ≡ false
digit_no_quote b h = grind (arith, nat_tests)

word_first : (behind : Bool) (b : ℕ) (rest : List ℕ) → begins_name b ≡ true → front behind (b ∷ rest) ≡ word behind (b ∷ rest)
word_first behind b rest is =
    ap (λ v. cond v (literal b rest) (cond (begins_number (b ∷ rest)) (number (b ∷ rest)) (cond (b == 36) (variable rest) (cond (begins_name b) (word behind (b ∷ rest)) (cond (b == 42) (star behind, 1) (mark (b ∷ rest))))))) (no_quote b is)
    ∙ ap (λ v. cond (v || ((b == 46) && begins_digit rest)) (number (b ∷ rest)) (cond (b == 36) (variable rest) (cond (begins_name b) (word behind (b ∷ rest)) (cond (b == 42) (star behind, 1) (mark (b ∷ rest)))))) (no_digit b is)
    ∙ ap (λ v. cond (v && begins_digit rest) (number (b ∷ rest)) (cond (b == 36) (variable rest) (cond (begins_name b) (word behind (b ∷ rest)) (cond (b == 42) (star behind, 1) (mark (b ∷ rest)))))) (no_point b is)
    ∙ ap (λ v. cond v (variable rest) (cond (begins_name b) (word behind (b ∷ rest)) (cond (b == 42) (star behind, 1) (mark (b ∷ rest))))) (no_dollar b is)
    ∙ ap (λ v. cond v (word behind (b ∷ rest)) (cond (b == 42) (star behind, 1) (mark (b ∷ rest)))) is

pub name_first : (behind : Bool) (s rest : List ℕ) → IsLocalName s → front behind (s ++ rest) ≡ word behind (s ++ rest)
name_first behind [] rest is = absurd is
name_first behind (b ∷ bs) rest is = word_first behind b (bs ++ rest) is.0

pub digit_first : (behind : Bool) (b : ℕ) (rest : List ℕ) → is_digit b ≡ true → front behind (b ∷ rest) ≡ number (b ∷ rest)
digit_first behind b rest is =
    ap (λ v. cond v (literal b rest) (cond (begins_number (b ∷ rest)) (number (b ∷ rest)) (cond (b == 36) (variable rest) (cond (begins_name b) (word behind (b ∷ rest)) (cond (b == 42) (star behind, 1) (mark (b ∷ rest))))))) (digit_no_quote b is)
    ∙ ap (λ v. cond (v || ((b == 46) && begins_digit rest)) (number (b ∷ rest)) (cond (b == 36) (variable rest) (cond (begins_name b) (word behind (b ∷ rest)) (cond (b == 42) (star behind, 1) (mark (b ∷ rest)))))) is

-- a name where an operand is wanted is that of a function or node type, of an axis, or no more than a name
pub before_by : (P : Kind → Type 0) → P kind.Callee → P kind.AxisName → P kind.Name → (l : List ℕ) → P (name_before l)
before_by P callee axis name [] = name
before_by P callee axis name (b ∷ []) = go (b == 40)
  where
    go : (v : Bool) → P (cond v kind.Callee kind.Name)
    go true = callee
    go false = name
before_by P callee axis name (b ∷ c ∷ l) = go (b == 40) ((b == 58) && (c == 58))
  where
    go : (v u : Bool) → P (cond v kind.Callee (cond u kind.AxisName kind.Name))
    go true u = callee
    go false true = axis
    go false false = name
