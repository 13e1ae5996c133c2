-- Characters of a text and its bytes.
use Rattle.std.proofs.Common.{◌≡◌, ℕ, eqb, true, cond, List, [], ◌∷◌, ◌++◌, Result, Ok, Err, is_ok, OnOk, length, sym, ◌∙◌, ap, append-nil, arith, rules, tests}
use Rattle.std.specs.Str.{chars, IsUtf8}
use Rattle.std.proofs.lemmas.Str.{chars-nil, chars-append, chars-encodes, encodes-chars, length-le-encodes}
use lib.Utf8.{encode, encodes, scalar, scalars}
use Rattle.xpath_values.specs.Values.{is_empty}

empty_by : (cs bs : List ℕ) → encodes cs ≡ bs → is_empty cs ≡ eqb (length bs) 0
empty_by [] bs e = ap (λ t. eqb (length t) 0) e
empty_by (c ∷ cs) [] e = absurd (omega (arith, length-le-encodes (c ∷ cs), ap length e))
empty_by (c ∷ cs) (b ∷ bs) e = search (rules, tests)

-- a text is empty where it has no bytes
pub empty_text : (bs : List ℕ) → IsUtf8 bs → is_empty (chars bs) ≡ eqb (length bs) 0
empty_text bs u = empty_by (chars bs) bs (encodes-chars bs u)

one_scalar : (c : ℕ) → scalar c ≡ true → scalars (c ∷ []) ≡ true
one_scalar c s = rw s

-- the characters of the bytes of one
pub chars-encode : (c : ℕ) → scalar c ≡ true → chars (encode c) ≡ c ∷ []
chars-encode c s = ap chars (sym (append-nil (encode c))) ∙ chars-encodes (c ∷ []) (one_scalar c s)

-- a character at the end of a text
pub chars-push : (bs : List ℕ) (c : ℕ) → IsUtf8 bs → scalar c ≡ true → chars (bs ++ encode c) ≡ chars bs ++ c ∷ []
chars-push bs c u s = chars-append bs (encode c) u ∙ ap (λ t. chars bs ++ t) (chars-encode c s)

-- what a text shows after a write that may have failed
pub shown_written : {A E : Type 0} (r : Result A E) (old new more shown cs : List ℕ) → IsUtf8 old → chars old ≡ shown → chars more ≡ cs → new ≡ cond (is_ok r) (old ++ more) old → OnOk r (chars new ≡ shown ++ cs)
shown_written (Ok x) old new more shown cs u e f w = ap chars w ∙ (chars-append old more u ∙ cc)
shown_written (Err x) old new more shown cs u e f w = tt

-- a text without bytes has no characters
pub chars_none : (bs : List ℕ) → length bs ≡ 0 → chars bs ≡ []
chars_none [] e = chars-nil
chars_none (b ∷ bs) e = absurd (omega (arith, e))
