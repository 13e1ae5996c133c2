-- Characters of a text and its bytes.
use Rattle.std.proofs.Common.{◌≡◌, ℕ, Bool, true, false, cond, List, [], ◌∷◌, ◌++◌, Result, Ok, Err, is_ok, OnOk, OnErr, ◌+◌, length, length-append, refl, sym, ◌∙◌, ap, append-nil, arith}
use Rattle.std.specs.List.{list_all}
use Rattle.std.specs.Str.{chars, IsUtf8, is_utf8}
use Rattle.std.proofs.lemmas.Str.{encodes-append, chars-nil, chars-append, chars-encodes, IsUtf8-from_is_utf8, is_utf8-from_IsUtf8}
use Rattle.tree_lines.specs.Texts.{is_allowed, is_line, size_of}
use lib.Utf8.{encode, encodes, scalar, scalars}

one_scalar : (c : ℕ) → scalar c ≡ true → scalars (c ∷ []) ≡ true
one_scalar c s = rw s

-- the characters of the bytes of one
pub chars-encode : (c : ℕ) → scalar c ≡ true → chars (encode c) ≡ c ∷ []
chars-encode c s = ap chars (sym (append-nil (encode c))) ∙ chars-encodes (c ∷ []) (one_scalar c s)

-- what a text shows after a write that may have failed
pub shown_written : {A E : Type 0} (r : Result A E) (old new more shown cs : List ℕ) → IsUtf8 old → chars old ≡ shown → chars more ≡ cs → new ≡ cond (is_ok r) (old ++ more) old → OnOk r (chars new ≡ shown ++ cs)
shown_written (Ok x) old new more shown cs u e f w = ap chars w ∙ (chars-append old more u ∙ cc)
shown_written (Err x) old new more shown cs u e f w = tt

-- a text without bytes has no characters
pub chars_none : (bs : List ℕ) → length bs ≡ 0 → chars bs ≡ []
chars_none [] e = chars-nil
chars_none (b ∷ bs) e = absurd (omega (arith, e))

-- whether a line may have these bytes, once they are known to be UTF-8, or not to be
pub is_line-text : (bs text : List ℕ) (b : Bool) → text ≡ bs → IsUtf8 bs → b ≡ list_all is_allowed (chars text) → is_line bs ≡ b
is_line-text bs text b same utf8 e = rw (is_utf8-from_IsUtf8 bs utf8) (ap (λ t. list_all is_allowed (chars t)) (sym same) ∙ sym e)

pub is_line-no_text : (bs : List ℕ) → (IsUtf8 bs → ⊥) → is_line bs ≡ false
is_line-no_text bs bad = by (is_utf8 bs) refl
  where
    by : (b : Bool) → is_utf8 bs ≡ b → is_line bs ≡ false
    by true e = absurd (bad (IsUtf8-from_is_utf8 bs e))
    by false e = rw e refl

pub shown_kept : {A E : Type 0} (r : Result A E) (old new more shown : List ℕ) → chars old ≡ shown → new ≡ cond (is_ok r) (old ++ more) old → OnErr r (chars new ≡ shown)
shown_kept (Ok x) old new more shown e w = tt
shown_kept (Err x) old new more shown e w = ap chars w ∙ e

-- the bytes of two texts
pub size_of-append : (t u : List ℕ) → size_of (t ++ u) ≡ size_of t + size_of u
size_of-append t u = ap length (encodes-append t u) ∙ length-append (encodes t) (encodes u)
