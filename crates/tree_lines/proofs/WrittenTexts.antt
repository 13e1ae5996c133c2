-- A text as it is written: its escapes are right, it means the text, and a line may have its bytes.
use Rattle.std.proofs.Common.{◌≡◌, ℕ, Bool, true, false, List, [], ◌∷◌, ◌++◌, refl, sym, ap, ◌∙◌, arith, encode_utf8_all, inl, inr}
use Rattle.std.specs.Prelude.{◌==◌, ◌&&◌}
use Rattle.std.specs.List.{list_all}
use Rattle.std.specs.Str.{chars, is_utf8, IsUtf8}
use Rattle.std.proofs.Math.Utf8.{scalar, scalars, low_scalar}
use Rattle.std.proofs.lemmas.Bool.{and_parts, and_from, cases_Bool, false≢true}
use Rattle.std.proofs.lemmas.List.Folds.{list_all-append}
use Rattle.std.proofs.lemmas.Str.{chars-append, chars-encodes, encodes_same, IsUtf8-append, IsUtf8-from_is_utf8, is_utf8-from_IsUtf8}
use Rattle.tree_lines.specs.Texts.{is_allowed, is_line, are_escaped, unescaped_behind, has_escapes, meant}
use Rattle.tree_lines.specs.Canonical.{escape_of, escaped}
use Rattle.tree_lines.specs.Writable.{is_writable, IsText}
use Rattle.tree_lines.proofs.Escapes.{slash, feed, tab, plain, case_of}

-- the escapes of one character
scalars-escape_of : (c : ℕ) (rest : List ℕ) → scalar c ≡ true → scalars rest ≡ true → scalars (escape_of c ++ rest) ≡ true
scalars-escape_of c rest one more = elim (case_of c) [
  | slash e ↦ rw e (two 92 92 (low_scalar 92 (omega arith)) (low_scalar 92 (omega arith)))
  | feed e ↦ rw e (two 92 110 (low_scalar 92 (omega arith)) (low_scalar 110 (omega arith)))
  | tab e ↦ rw e (two 92 116 (low_scalar 92 (omega arith)) (low_scalar 116 (omega arith)))
  | plain no_slash no_feed no_tab apart ↦ rw (no_slash, no_feed, no_tab) (and_from (scalar c) (scalars rest) one more)
]
  where
    two : (a b : ℕ) → scalar a ≡ true → scalar b ≡ true → scalars (a ∷ b ∷ rest) ≡ true
    two a b first last = and_from (scalar a) (scalar b && scalars rest) first (and_from (scalar b) (scalars rest) last more)

are_escaped-escape_of : (c : ℕ) (rest : List ℕ) → are_escaped false (escape_of c ++ rest) ≡ are_escaped false rest
are_escaped-escape_of c rest = elim (case_of c) [
  | slash e ↦ rw e refl
  | feed e ↦ rw e refl
  | tab e ↦ rw e refl
  | plain no_slash no_feed no_tab apart ↦ rw (no_slash, no_feed, no_tab) (ap (λ (hit : Bool). are_escaped hit rest) no_slash)
]

unescaped-escape_of : (c : ℕ) (rest : List ℕ) → unescaped_behind false (escape_of c ++ rest) ≡ c ∷ unescaped_behind false rest
unescaped-escape_of c rest = elim (case_of c) [
  | slash e ↦ rw e refl
  | feed e ↦ rw e refl
  | tab e ↦ rw e refl
  | plain no_slash no_feed no_tab apart ↦ rw (no_slash, no_feed, no_tab) (rw no_slash refl)
]

allowed-plain : (c : ℕ) → (c == 10) ≡ false → (c == 9) ≡ false → is_writable c ≡ true → is_allowed c ≡ true
allowed-plain c no_feed no_tab good = elim (cases_Bool (is_allowed c)) [
  | inl is ↦ is
  | inr not_so ↦ absurd (false≢true (rw (not_so, no_feed, no_tab) at good))
]

allowed-escape_of : (c : ℕ) → is_writable c ≡ true → list_all is_allowed (escape_of c) ≡ true
allowed-escape_of c good = elim (case_of c) [
  | slash e ↦ rw e refl
  | feed e ↦ rw e refl
  | tab e ↦ rw e refl
  | plain no_slash no_feed no_tab apart ↦ rw (no_slash, no_feed, no_tab) (and_from (is_allowed c) true (allowed-plain c no_feed no_tab good) refl)
]

-- and of all of them
scalars-escaped : (t : List ℕ) → scalars t ≡ true → scalars (escaped t) ≡ true
scalars-escaped [] h = refl
scalars-escaped (c ∷ cs) h =
    let parts = and_parts (scalar c) (scalars cs) h in
    scalars-escape_of c (escaped cs) parts.0 (scalars-escaped cs parts.1)

are_escaped-escaped : (t : List ℕ) → are_escaped false (escaped t) ≡ true
are_escaped-escaped [] = refl
are_escaped-escaped (c ∷ cs) = are_escaped-escape_of c (escaped cs) ∙ are_escaped-escaped cs

unescaped-escaped : (t : List ℕ) → unescaped_behind false (escaped t) ≡ t
unescaped-escaped [] = refl
unescaped-escaped (c ∷ cs) = unescaped-escape_of c (escaped cs) ∙ ap (λ (x : List ℕ). c ∷ x) (unescaped-escaped cs)

allowed-escaped : (t : List ℕ) → list_all is_writable t ≡ true → list_all is_allowed (escaped t) ≡ true
allowed-escaped [] h = refl
allowed-escaped (c ∷ cs) h =
    let parts = and_parts (is_writable c) (list_all is_writable cs) h in
    list_all-append is_allowed (escape_of c) (escaped cs)
    ∙ and_from (list_all is_allowed (escape_of c)) (list_all is_allowed (escaped cs)) (allowed-escape_of c parts.0) (allowed-escaped cs parts.1)

-- the bytes of a text as it is written
abbrev pub written_text : List ℕ → List ℕ
written_text t = encode_utf8_all (escaped t)

scalars-text : (t : List ℕ) → IsText t → scalars t ≡ true
scalars-text t good =
    let utf8 = IsUtf8-from_is_utf8 (encode_utf8_all t) (and_parts (is_utf8 (encode_utf8_all t)) (list_all is_writable t) good).0 in
    sym (ap scalars (encodes_same utf8.0 t utf8.1.1)) ∙ utf8.1.0

utf8-written : (t : List ℕ) → IsText t → IsUtf8 (written_text t)
utf8-written t good = (escaped t, (scalars-escaped t (scalars-text t good), refl))

pub chars-written : (t : List ℕ) → IsText t → chars (written_text t) ≡ escaped t
chars-written t good = chars-encodes (escaped t) (scalars-escaped t (scalars-text t good))

pub has_escapes-written : (t : List ℕ) → IsText t → has_escapes (written_text t) ≡ true
has_escapes-written t good = ap (are_escaped false) (chars-written t good) ∙ are_escaped-escaped t

pub meant-written : (t : List ℕ) → IsText t → meant (written_text t) ≡ t
meant-written t good = ap (unescaped_behind false) (chars-written t good) ∙ unescaped-escaped t

pub is_line-written : (t : List ℕ) → IsText t → is_line (written_text t) ≡ true
is_line-written t good =
    let allowed = allowed-escaped t (and_parts (is_utf8 (encode_utf8_all t)) (list_all is_writable t) good).1 in
    and_from (is_utf8 (written_text t)) (list_all is_allowed (chars (written_text t))) (is_utf8-from_IsUtf8 (written_text t) (utf8-written t good))
    (ap (list_all is_allowed) (chars-written t good) ∙ allowed)

-- bytes of a line one after another
pub is_line-append : (xs ys : List ℕ) → is_line xs ≡ true → is_line ys ≡ true → is_line (xs ++ ys) ≡ true
is_line-append xs ys first last =
    let one = and_parts (is_utf8 xs) (list_all is_allowed (chars xs)) first in
    let other = and_parts (is_utf8 ys) (list_all is_allowed (chars ys)) last in
    let front = IsUtf8-from_is_utf8 xs one.0 in
    let whole = is_utf8-from_IsUtf8 (xs ++ ys) (IsUtf8-append xs ys front (IsUtf8-from_is_utf8 ys other.0)) in
    let allowed : list_all is_allowed (chars (xs ++ ys)) ≡ true =
    ap (list_all is_allowed) (chars-append xs ys front) ∙ list_all-append is_allowed (chars xs) (chars ys)
    ∙ and_from (list_all is_allowed (chars xs)) (list_all is_allowed (chars ys)) one.1 other.1 in
    and_from (is_utf8 (xs ++ ys)) (list_all is_allowed (chars (xs ++ ys))) whole allowed

pub is_line-utf8 : (bytes : List ℕ) → is_line bytes ≡ true → is_utf8 bytes ≡ true
is_line-utf8 bytes good = (and_parts (is_utf8 bytes) (list_all is_allowed (chars bytes)) good).0
