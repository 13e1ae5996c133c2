-- Runs of bytes that pass a test, and the tokens behind a place.
use Rattle.std.proofs.Common.{◌≡◌, ℕ, zero, suc, pred, ◌+◌, ◌<◌, ◌≤◌, ◌==◌, Bool, true, false, cond, ltb, nat_lt, List, [], ◌∷◌, ◌++◌, length, drop, get_or, Some, None, unwrap_or, sym, refl, ap, ◌∙◌, append_assoc, append-nil, arith}
use Rattle.std.specs.List.{position_or_len}
use Rattle.std.proofs.lemmas.Bool.Decides.{nat_tests}
use Rattle.std.proofs.lemmas.List.Sums.{prefix_len-le-length}
use Rattle.std.proofs.Math.Seq.{drop-cons}
use Rattle.std.proofs.lemmas.List.{drop-drop, drop_all}
use Rattle.xpath_tokens.specs.declared.tokens.Kind.{Kind}
use Rattle.xpath_tokens.specs.declared.tokens.Kind.TheVariants as kind
use Rattle.xpath_tokens.specs.declared.tokens.Token.{Token}
use Rattle.serna_kinds.specs.Blanks.{is_space}
use Rattle.xpath_tokens.specs.Tokens.{literal, front, ends_operand, token_at, tokens_from, tokens_of}

found : (n m : ℕ) → n ≤ m → unwrap_or (cond (ltb n m) (Some n) None) m ≡ n
found n m le = grind (arith, nat_tests)

pub found_or_end : {X : Type 0} (p : X → Bool) (xs : List X) → unwrap_or (cond (ltb (position_or_len p xs) (length xs)) (Some (position_or_len p xs)) None) (length xs) ≡ position_or_len p xs
found_or_end p xs = found (position_or_len p xs) (length xs) (prefix_len-le-length _ xs)

-- A literal

ends : (n m i : ℕ) → Some i ≡ cond (ltb n m) (Some n) None → ◌≡◌ {A = Kind × ℕ} (kind.Literal, i + 2) (cond (nat_lt n m) (kind.Literal, n + 2) (kind.Wrong, suc m))
ends n m i e = go (ltb n m) e
  where
    go : (b : Bool) → Some i ≡ cond b (Some n) None → ◌≡◌ {A = Kind × ℕ} (kind.Literal, i + 2) (cond b (kind.Literal, n + 2) (kind.Wrong, suc m))
    go true e = let same : i ≡ n = cc in ap (λ k. (kind.Literal, k + 2)) same
    go false e = cc

unclosed : (n m : ℕ) → None ≡ cond (ltb n m) (Some n) None → ◌≡◌ {A = Kind × ℕ} (kind.Wrong, 1 + m) (cond (nat_lt n m) (kind.Literal, n + 2) (kind.Wrong, suc m))
unclosed n m e = go (ltb n m) e
  where
    one : 1 + m ≡ suc m
    one = omega arith

    go : (b : Bool) → None ≡ cond b (Some n) None → ◌≡◌ {A = Kind × ℕ} (kind.Wrong, 1 + m) (cond b (kind.Literal, n + 2) (kind.Wrong, suc m))
    go true e = cc
    go false e = ap (λ k. (kind.Wrong, k)) one

pub literal_ends : (quote : ℕ) (rest : List ℕ) (i : ℕ) → Some i ≡ cond (ltb (position_or_len (λ c. c == quote) rest) (length rest)) (Some (position_or_len (λ c. c == quote) rest)) None
    → ◌≡◌ {A = Kind × ℕ} (kind.Literal, i + 2) (literal quote rest)
literal_ends quote rest i e = ends (position_or_len (λ c. c == quote) rest) (length rest) i e

pub literal_open : (quote : ℕ) (rest : List ℕ) → None ≡ cond (ltb (position_or_len (λ c. c == quote) rest) (length rest)) (Some (position_or_len (λ c. c == quote) rest)) None
    → ◌≡◌ {A = Kind × ℕ} (kind.Wrong, 1 + length rest) (literal quote rest)
literal_open quote rest e = unclosed (position_or_len (λ c. c == quote) rest) (length rest) e

-- Tokens

skip : (n : ℕ) (behind : Bool) (at : ℕ) (rest : List ℕ) → tokens_from n behind at rest ≡ tokens_from 0 behind (at + n) (drop n rest)
unfolding tokens_from
skip zero behind at rest = let same : at ≡ at + 0 = omega arith in ap (λ k. tokens_from 0 behind k rest) same
skip (suc n) behind at [] = refl
skip (suc n) behind at (b ∷ rest) =
    let same : suc at + n ≡ at + suc n = omega arith in skip n behind (suc at) rest ∙ ap (λ k. tokens_from 0 behind k (drop n rest)) same

-- at the end there is no token
pub no_more : (text : List ℕ) (behind : Bool) (at : ℕ) (tokens : List Token) → length text ≤ at → tokens ++ tokens_from 0 behind at (drop at text) ≡ tokens_of text → tokens ≡ tokens_of text
unfolding tokens_from
no_more text behind at tokens le e = sym (append-nil tokens) ∙ ap (λ l. tokens ++ tokens_from 0 behind at l) (sym (drop_all at text le)) ∙ e

if_true : {X : Type 0} (v : Bool) (x y : X) → v ≡ true → cond v x y ≡ x
if_true v x y e = ap (λ w. cond w x y) e

if_false : {X : Type 0} (v : Bool) (x y : X) → v ≡ false → cond v x y ≡ y
if_false v x y e = ap (λ w. cond w x y) e

at_space : (behind : Bool) (at b : ℕ) (rest : List ℕ) → is_space b ≡ true → tokens_from 0 behind at (b ∷ rest) ≡ tokens_from 0 behind (suc at) rest
unfolding tokens_from
at_space behind at b rest is = if_true (is_space b) _ _ is

at_token : (behind : Bool) (at b : ℕ) (rest : List ℕ) (k : Kind) (n : ℕ) → is_space b ≡ false → front behind (b ∷ rest) ≡ (k, suc n)
    → tokens_from 0 behind at (b ∷ rest) ≡ token_at at (k, suc n) ∷ tokens_from n (ends_operand k) (suc at) rest
unfolding tokens_from
at_token behind at b rest k n is e = if_false (is_space b) _ _ is ∙ ap (λ (t : Kind × ℕ). token_at at t ∷ tokens_from (pred t.1) (ends_operand t.0) (suc at) rest) e

-- white space is passed over
pub past_space : (text : List ℕ) (behind : Bool) (at : ℕ) → at < length text → is_space (get_or text at 0) ≡ true
    → tokens_from 0 behind at (drop at text) ≡ tokens_from 0 behind (at + 1) (drop (at + 1) text)
past_space text behind at lt is =
    let next : suc at ≡ at + 1 = omega arith in
    ap (tokens_from 0 behind at) (drop-cons text at 0 lt) ∙ at_space behind at _ _ is ∙ ap (λ k. tokens_from 0 behind k (drop k text)) next

-- a token is passed over
pub past_token : (text : List ℕ) (behind : Bool) (at : ℕ) (t : Kind × ℕ) → at < length text → is_space (get_or text at 0) ≡ false → t ≡ front behind (drop at text) → 1 ≤ t.1
    → tokens_from 0 behind at (drop at text) ≡ token_at at t ∷ tokens_from 0 (ends_operand t.0) (at + t.1) (drop (at + t.1) text)
past_token text behind at (k, zero) lt is e some = absurd (omega arith)
past_token text behind at (k, suc n) lt is e some =
    let cons = drop-cons text at 0 lt in
    let places : suc at + n ≡ at + suc n = omega arith in
    ap (tokens_from 0 behind at) cons
    ∙ at_token behind at _ (drop (suc at) text) k n is (ap (front behind) (sym cons) ∙ sym e)
    ∙ ap (λ l. token_at at (k, suc n) ∷ l) (skip n (ends_operand k) (suc at) (drop (suc at) text)
    ∙ ap (tokens_from 0 (ends_operand k) (suc at + n)) (drop-drop n (suc at) text) ∙ ap (λ i. tokens_from 0 (ends_operand k) i (drop i text)) places)

-- a token goes to the end of those that were found
pub with_token : (text : List ℕ) (behind : Bool) (at : ℕ) (tokens : List Token) (t : Kind × ℕ) → at < length text → is_space (get_or text at 0) ≡ false → t ≡ front behind (drop at text) → 1 ≤ t.1
    → tokens ++ tokens_from 0 behind at (drop at text) ≡ tokens_of text
    → (tokens ++ token_at at t ∷ []) ++ tokens_from 0 (ends_operand t.0) (at + t.1) (drop (at + t.1) text) ≡ tokens_of text
with_token text behind at tokens t lt is e some so_far =
    append_assoc tokens (token_at at t ∷ []) _ ∙ ap (λ l. tokens ++ l) (sym (past_token text behind at t lt is e some)) ∙ so_far
