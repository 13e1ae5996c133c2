-- The tokens of words that are spelled one after another, each of which is the first token of what is left.
use Rattle.std.proofs.Common.{◌≡◌, ◌+◌, ◌-◌, ℕ, zero, suc, pred, not, Bool, true, false, cond, IsTrue, List, [], ◌∷◌, ◌++◌, length, length-append, take, drop, sym, refl, ap, ◌∙◌, append_assoc, arith}
use Rattle.std.proofs.Math.Seq.{drop-append_seam, take-append_seam}
use Rattle.serna_kinds.specs.Names.{NameParts, Space}
use Rattle.xpath_tokens.specs.declared.tokens.Kind.{Kind}
use Rattle.xpath_tokens.specs.declared.tokens.Token.{Token}
use Rattle.serna_kinds.specs.Blanks.{is_space}
use Rattle.xpath_tokens.specs.Tokens.{front, ends_operand, token_at, tokens_from, tokens_of}
use Rattle.xpath_tokens.specs.Symbols.{written_at, symbol_of, symbols_at}
use Rattle.xpath_writer.specs.Writing.{Word, spelled, begins_token, AreTokens, symbols_in}

abbrev pub placed : ℕ → List Word → List Token
placed at [] = []
placed at (w ∷ ws) = token_at at (w.0, length w.1) ∷ placed (at + suc (length w.1)) ws

-- behind the bytes of a token
past_bytes : (behind : Bool) (at : ℕ) (xs ys : List ℕ) → tokens_from (length xs) behind at (xs ++ ys) ≡ tokens_from zero behind (at + length xs) ys
unfolding tokens_from
past_bytes behind at [] ys = let same : at ≡ at + 0 = omega arith in ap (λ n. tokens_from zero behind n ys) same
past_bytes behind at (x ∷ xs) ys =
    let same : suc at + length xs ≡ at + suc (length xs) = omega arith in
    past_bytes behind (suc at) xs ys ∙ ap (λ n. tokens_from zero behind n ys) same

past_blank : (behind : Bool) (at : ℕ) (ys : List ℕ) → tokens_from zero behind at (32 ∷ ys) ≡ tokens_from zero behind (suc at) ys
unfolding tokens_from
past_blank behind at ys = refl

first_token : (behind : Bool) (at b n : ℕ) (k : Kind) (rest : List ℕ) → is_space b ≡ false → front behind (b ∷ rest) ≡ (k, suc n) → tokens_from zero behind at (b ∷ rest) ≡ token_at at (k, suc n) ∷ tokens_from n (ends_operand k) (suc at) rest
unfolding tokens_from
first_token behind at b n k rest space is =
    ap (λ v. cond v (tokens_from zero behind (suc at) rest) (token_at at (front behind (b ∷ rest)) ∷ tokens_from (pred (front behind (b ∷ rest)).1) (ends_operand (front behind (b ∷ rest)).0) (suc at) rest)) space
    ∙ ap (λ (t : Kind × ℕ). token_at at t ∷ tokens_from (pred t.1) (ends_operand t.0) (suc at) rest) is

not_space : (v : Bool) → IsTrue (not v) → v ≡ false
not_space true h = cc
not_space false h = refl

one_word : (behind : Bool) (at : ℕ) (k : Kind) (text : List ℕ) (left : List ℕ) → front behind ((text ++ 32 ∷ []) ++ left) ≡ (k, length text) → IsTrue (begins_token text)
    → tokens_from zero behind at ((text ++ 32 ∷ []) ++ left) ≡ token_at at (k, length text) ∷ tokens_from zero (ends_operand k) (at + suc (length text)) left
one_word behind at k [] left is begins = absurd (no_token begins)
  where
    no_token : IsTrue false → ⊥
    no_token e = cc
one_word behind at k (b ∷ bs) left is begins =
    let at_end : suc (suc at + length bs) ≡ at + suc (suc (length bs)) = omega arith in
    first_token behind at b (length bs) k ((bs ++ 32 ∷ []) ++ left) (not_space (is_space b) begins) is
    ∙ ap (λ ts. token_at at (k, suc (length bs)) ∷ ts) (ap (tokens_from (length bs) (ends_operand k) (suc at)) (append_assoc bs (32 ∷ []) left)
    ∙ past_bytes (ends_operand k) (suc at) bs (32 ∷ left)
    ∙ past_blank (ends_operand k) (suc at + length bs) left
    ∙ ap (λ n. tokens_from zero (ends_operand k) n left) at_end)

pub all_words : (behind : Bool) (at : ℕ) (words : List Word) → AreTokens behind words → tokens_from zero behind at (spelled words) ≡ placed at words
unfolding tokens_from
all_words behind at [] is = refl
all_words behind at (w ∷ ws) is =
    one_word behind at w.0 w.1 (spelled ws) is.0 is.1 ∙ ap (λ ts. token_at at (w.0, length w.1) ∷ ts) (all_words (ends_operand w.0) (at + suc (length w.1)) ws is.2)

module _ (spaces : List Space) (names : List NameParts) where
  pub placed-read : (before : List ℕ) (words : List Word) → symbols_at spaces names (before ++ spelled words) (placed (length before) words) ≡ symbols_in spaces names words
  placed-read before [] = refl
  placed-read before (w ∷ ws) =
      let text = before ++ ((w.1 ++ 32 ∷ []) ++ spelled ws) in
      let later = before ++ (w.1 ++ 32 ∷ []) in
      let size : (length before + length w.1) - length before ≡ length w.1 = omega arith in
      let this : written_at text (token_at (length before) (w.0, length w.1)) ≡ w.1 =
      ap (λ n. take n (drop (length before) text)) size
      ∙ ap (take (length w.1)) (drop-append_seam before ((w.1 ++ 32 ∷ []) ++ spelled ws) ∙ append_assoc w.1 (32 ∷ []) (spelled ws))
      ∙ take-append_seam w.1 (32 ∷ spelled ws) in
      let whole : text ≡ later ++ spelled ws = sym (append_assoc before (w.1 ++ 32 ∷ []) (spelled ws)) in
      let place : length before + suc (length w.1) ≡ length later = omega (arith, length-append before (w.1 ++ 32 ∷ []), length-append w.1 (32 ∷ [])) in
      ap (λ s. symbol_of spaces names w.0 s ∷ symbols_at spaces names text (placed (length before + suc (length w.1)) ws)) this
      ∙ ap (λ l. symbol_of spaces names w.0 w.1 ∷ l) (ap (λ n. symbols_at spaces names text (placed n ws)) place ∙ ap (λ t. symbols_at spaces names t (placed (length later) ws)) whole ∙ placed-read later ws)

  pub spelled-read : (words : List Word) → AreTokens false words → symbols_at spaces names (spelled words) (tokens_of (spelled words)) ≡ symbols_in spaces names words
  spelled-read words is = ap (symbols_at spaces names (spelled words)) (all_words false 0 words is) ∙ placed-read [] words
