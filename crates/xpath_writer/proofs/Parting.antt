-- No `/` stands right before an operator's name: there a name would be a step.
use Rattle.std.proofs.Common.{◌≡◌, ◌+◌, ◌&&◌, ℕ, zero, suc, pred, Bool, true, false, cond, List, [], ◌∷◌, ◌++◌, get_or, drop, Option, Some, None, refl, ap, ◌∙◌}
use Rattle.std.specs.Map.{lookup}
use Rattle.std.specs.Str.{bytes_eq}
use Rattle.serna_kinds.specs.Names.{NameParts, Space}
use Rattle.serna_kinds.specs.declared.expressions.Axis.{Axis}
use Rattle.serna_kinds.specs.declared.expressions.NodeTest.{NodeTest}
use Rattle.xpath_tokens.specs.declared.symbol.Symbol.{Symbol}
use Rattle.xpath_tokens.specs.declared.tokens.Kind.{Kind}
use Rattle.xpath_tokens.specs.declared.tokens.Kind.TheVariants as kind
use Rattle.xpath_tokens.specs.declared.tokens.Token.{Token}
use Rattle.xpath_tokens.specs.Spelling.{IsSpelled}
use Rattle.xpath_tokens.specs.Symbols.{written_at, node_types, axes, callee_or, axis_or_wrong, symbol_of, symbols_at}
use Rattle.serna_kinds.specs.Blanks.{is_space}
use Rattle.xpath_tokens.specs.Tokens.{begins_any, local_length, name_length, name_before, without_spaces, word, front, ends_operand, token_at, tokens_from, tokens_of}
use Rattle.xpath_writer.specs.Writing.{is_named}
use Rattle.xpath_writer.proofs.Shallow.{is_slash_in, is_named_in, begins_named, Apart}
use Rattle.xpath_tokens.proofs.Spelled.{front_spelled}
use Rattle.xpath_tokens.proofs.WordFronts.{before_by}

unnamed_before : (l : List ℕ) → is_named (name_before l) ≡ false
unnamed_before = before_by (λ k. is_named k ≡ false) refl refl refl

unnamed_word : (text : List ℕ) → is_named (word false text).0 ≡ false
unnamed_word text = go (begins_any (drop (local_length text) text)) (name_length text) (local_length text + 2)
  where
    go : (v : Bool) (n m : ℕ) → is_named (let t : Kind × ℕ = cond v (kind.Within, m) (name_before (without_spaces (drop n text)), n) in t).0 ≡ false
    go true n m = refl
    go false n m = unnamed_before (without_spaces (drop n text))

-- The token at the front where an operand is wanted is no operator that is told by the token before it alone: the first byte of
-- each begins a name, or is `*`.
unnamed : (b : ℕ) (bs : List ℕ) (k : Kind) (written rest : List ℕ) → k ≡ (front false (b ∷ bs)).0 → b ∷ bs ≡ written ++ rest → IsSpelled k written → is_named k ≡ false
unnamed b bs kind.Or written rest same whole spelled =
    let first : b ≡ 111 = ap (λ l. get_or l 0 0) (whole ∙ ap (λ w. w ++ rest) spelled) in
    ap is_named same ∙ ap (λ c. is_named (front false (c ∷ bs)).0) first ∙ unnamed_word (111 ∷ bs)
unnamed b bs kind.And written rest same whole spelled =
    let first : b ≡ 97 = ap (λ l. get_or l 0 0) (whole ∙ ap (λ w. w ++ rest) spelled) in
    ap is_named same ∙ ap (λ c. is_named (front false (c ∷ bs)).0) first ∙ unnamed_word (97 ∷ bs)
unnamed b bs kind.Mod written rest same whole spelled =
    let first : b ≡ 109 = ap (λ l. get_or l 0 0) (whole ∙ ap (λ w. w ++ rest) spelled) in
    ap is_named same ∙ ap (λ c. is_named (front false (c ∷ bs)).0) first ∙ unnamed_word (109 ∷ bs)
unnamed b bs kind.Multiply written rest same whole spelled =
    let first : b ≡ 42 = ap (λ l. get_or l 0 0) (whole ∙ ap (λ w. w ++ rest) spelled) in
    ap is_named same ∙ ap (λ c. is_named (front false (c ∷ bs)).0) first
unnamed b bs k written rest same whole spelled = refl

unnamed_front : (b : ℕ) (bs : List ℕ) → is_named (front false (b ∷ bs)).0 ≡ false
unnamed_front b bs = let f = front_spelled false b bs in unnamed b bs (front false (b ∷ bs)).0 f.written f.rest refl f.whole f.spelled

module _ (spaces : List Space) (names : List NameParts) where
  named_same : (k : Kind) (w : List ℕ) → is_named_in (symbol_of spaces names k w) ≡ is_named k
  named_same kind.Callee w = go (lookup (bytes_eq w) node_types)
    where
      go : (o : Option NodeTest) → is_named_in (callee_or w o) ≡ false
      go None = refl
      go (Some t) = refl
  named_same kind.AxisName w = go (lookup (bytes_eq w) axes)
    where
      go : (o : Option Axis) → is_named_in (axis_or_wrong o) ≡ false
      go None = refl
      go (Some a) = refl
  named_same k w = refl

  -- whatever stands behind a token, where what stands behind a `/` begins with no such operator
  slash_apart : (k : Kind) (w : List ℕ) (rest : Bool → List Symbol) → begins_named (rest false) ≡ false → (is_slash_in (symbol_of spaces names k w) && begins_named (rest (ends_operand k))) ≡ false
  slash_apart kind.Slash w rest e = e
  slash_apart kind.Callee w rest e = go (lookup (bytes_eq w) node_types)
    where
      go : (o : Option NodeTest) → (is_slash_in (callee_or w o) && begins_named (rest true)) ≡ false
      go None = refl
      go (Some t) = refl
  slash_apart kind.AxisName w rest e = go (lookup (bytes_eq w) axes)
    where
      go : (o : Option Axis) → (is_slash_in (axis_or_wrong o) && begins_named (rest true)) ≡ false
      go None = refl
      go (Some a) = refl
  slash_apart k w rest e = refl

  module _ (text : List ℕ) where
    abbrev read : List Token → List Symbol
    read = symbols_at spaces names text

    starts : (l : List ℕ) (skip at : ℕ) → begins_named (read (tokens_from skip false at l)) ≡ false
    unfolding tokens_from
    starts [] zero at = refl
    starts [] (suc skip) at = refl
    starts (b ∷ rest) (suc skip) at = starts rest skip (suc at)
    starts (b ∷ rest) zero at = go (is_space b) (starts rest zero (suc at))
      where
        t : Kind × ℕ
        t = front false (b ∷ rest)

        go : (v : Bool) → begins_named (read (tokens_from zero false (suc at) rest)) ≡ false
            → begins_named (read (cond v (tokens_from zero false (suc at) rest) (token_at at t ∷ tokens_from (pred t.1) (ends_operand t.0) (suc at) rest))) ≡ false
        go true e = e
        go false e = named_same t.0 (written_at text (token_at at t)) ∙ unnamed_front b rest

    parting : (l : List ℕ) (skip : ℕ) (behind : Bool) (at : ℕ) → Apart (read (tokens_from skip behind at l))
    unfolding tokens_from
    parting [] zero behind at = tt
    parting [] (suc skip) behind at = tt
    parting (b ∷ rest) (suc skip) behind at = parting rest skip behind (suc at)
    parting (b ∷ rest) zero behind at = go (is_space b) (parting rest zero behind (suc at)) (parting rest (pred (front behind (b ∷ rest)).1) (ends_operand (front behind (b ∷ rest)).0) (suc at))
      where
        t : Kind × ℕ
        t = front behind (b ∷ rest)

        go : (v : Bool) → Apart (read (tokens_from zero behind (suc at) rest)) → Apart (read (tokens_from (pred t.1) (ends_operand t.0) (suc at) rest))
            → Apart (read (cond v (tokens_from zero behind (suc at) rest) (token_at at t ∷ tokens_from (pred t.1) (ends_operand t.0) (suc at) rest)))
        go true space token = space
        go false space token =
            (slash_apart t.0 (written_at text (token_at at t)) (λ behind. read (tokens_from (pred t.1) behind (suc at) rest)) (starts rest (pred t.1) (suc at)), token)

    pub all_apart : Apart (read (tokens_of text))
    all_apart = parting text zero false 0
