-- What a line's texts mean can be written again.
use Rattle.std.proofs.Common.{◌≡◌, ℕ, ◌+◌, ◌<◌, Bool, true, false, List, [], ◌∷◌, ◌++◌, length, drop, encode_utf8_all, get_or, refl, sym, ap, ◌∙◌, arith, subst, take_at, drop_at, length-append, append_assoc}
use Rattle.std.specs.Prelude.{IsTrue, ◌==◌, ◌&&◌, if◌then◌else◌}
use Rattle.std.specs.List.{AllByRecursion, list_all}
use Rattle.std.specs.Str.{chars, is_utf8, IsUtf8}
use Rattle.std.proofs.Math.Utf8.{scalar, scalars}
use Rattle.std.proofs.lemmas.Bool.{and_parts, and_from}
use Rattle.std.proofs.lemmas.List.{get_or_at}
use Rattle.std.proofs.lemmas.List.Folds.{list_all-append}
use Rattle.std.proofs.lemmas.Str.{IsUtf8-from_is_utf8, is_utf8-from_IsUtf8, IsUtf8-take, IsUtf8-drop, IsUtf8-append, IsUtf8-from_ascii, IsCharBoundary-before_ascii, IsCharBoundary-after_ascii, chars-append, chars-IsAscii, chars-encodes, scalars-chars, encodes-append, encodes-chars, length-le-encodes}
use Rattle.std.proofs.lemmas.Str.Ascii.{IsAscii-nil, IsAscii-cons}
use Rattle.tree_lines.specs.Texts.{is_allowed, is_line, is_backslash, unescaped, unescaped_behind, meant}
use Rattle.tree_lines.specs.Writable.{is_writable, IsText}

-- what is allowed on both sides of an ASCII mark
pub is_line-parts : (front back : List ℕ) (mark : ℕ) → mark < 128 → IsTrue (is_line (front ++ mark ∷ back)) → IsTrue (is_line front) × IsTrue (is_line back)
is_line-parts front back mark low good =
    let whole : List ℕ = front ++ mark ∷ back in
    let parts = and_parts (is_utf8 whole) (list_all is_allowed (chars whole)) good in
    let text : IsUtf8 whole = IsUtf8-from_is_utf8 whole parts.0 in
    let size : length whole ≡ length front + length (mark ∷ back) = length-append front (mark ∷ back) in
    let within : length front < length whole = omega arith in
    let at : get_or whole (length front) 0 ≡ mark = get_or_at front mark back 0 (length front) refl in
    let first : IsUtf8 front =
    subst IsUtf8 (take_at front (mark ∷ back) (length front) refl) (IsUtf8-take whole (length front) text (IsCharBoundary-before_ascii whole (length front) within (omega arith))) in
    let behind : drop (length front + 1) whole ≡ back =
    ap (drop (length front + 1)) (sym (append_assoc front (mark ∷ []) back)) ∙ drop_at (front ++ mark ∷ []) back (length front + 1) (length-append front (mark ∷ [])) in
    let second : IsUtf8 back =
    subst IsUtf8 behind (IsUtf8-drop whole (length front + 1) text (IsCharBoundary-after_ascii whole (length front) text within (omega arith))) in
    let ascii = IsAscii-cons mark [] low IsAscii-nil in
    let marked : chars (mark ∷ back) ≡ mark ∷ chars back =
    chars-append (mark ∷ []) back (IsUtf8-from_ascii (mark ∷ []) ascii) ∙ ap (λ (x : List ℕ). x ++ chars back) (chars-IsAscii (mark ∷ []) ascii) in
    let spelled : chars whole ≡ chars front ++ (mark ∷ chars back) = chars-append front (mark ∷ back) first ∙ ap (λ (x : List ℕ). chars front ++ x) marked in
    let allowed = and_parts (list_all is_allowed (chars front)) (is_allowed mark && list_all is_allowed (chars back))
    (sym (list_all-append is_allowed (chars front) (mark ∷ chars back)) ∙ sym (ap (list_all is_allowed) spelled) ∙ parts.1) in
    let last = and_parts (is_allowed mark) (list_all is_allowed (chars back)) allowed.1 in (
      and_from (is_utf8 front) (list_all is_allowed (chars front)) (is_utf8-from_IsUtf8 front first) allowed.0,
      and_from (is_utf8 back) (list_all is_allowed (chars back)) (is_utf8-from_IsUtf8 back second) last.1,
    )

-- a character that a line may mean
abbrev IsMeant : ℕ → Type 0
IsMeant c = (scalar c ≡ true) × (is_writable c ≡ true)

abbrev AreMeant : List ℕ → Type 0
AreMeant text = AllByRecursion IsMeant text

allowed-meant : (c : ℕ) → scalar c ≡ true → is_allowed c ≡ true → IsMeant c
allowed-meant c one other = (one, rw (other, is_writable) refl)

unescaped-meant : (c : ℕ) (rest : List ℕ) → IsMeant c → AreMeant rest → AreMeant (unescaped c ++ rest)
unescaped-meant c rest here after = by (c == 92) (c == 110) (c == 116)
  where
    by : (slash feed tab : Bool) → AreMeant ((if slash then 92 ∷ [] else (if feed then 10 ∷ [] else (if tab then 9 ∷ [] else 92 ∷ c ∷ []))) ++ rest)
    by true feed tab = ((refl, refl), after)
    by false true tab = ((refl, refl), after)
    by false false true = ((refl, refl), after)
    by false false false = ((refl, refl), (here, after))

behind-meant : (flag : Bool) (text : List ℕ) → AreMeant text → AreMeant (unescaped_behind flag text)
behind-meant false [] all = tt
behind-meant true [] all = ((refl, refl), tt)
behind-meant false (c ∷ cs) all = by (is_backslash c) (behind-meant true cs all.1) (behind-meant false cs all.1)
  where
    by : (slash : Bool) → AreMeant (unescaped_behind true cs) → AreMeant (unescaped_behind false cs) → AreMeant (if slash then unescaped_behind true cs else c ∷ unescaped_behind false cs)
    by true one other = one
    by false one other = (all.0, other)
behind-meant true (c ∷ cs) all = unescaped-meant c (unescaped_behind false cs) all.0 (behind-meant false cs all.1)

line_chars-meant : (text : List ℕ) → scalars text ≡ true → list_all is_allowed text ≡ true → AreMeant text
line_chars-meant [] one other = tt
line_chars-meant (c ∷ cs) one other =
    let first = and_parts (scalar c) (scalars cs) one in
    let second = and_parts (is_allowed c) (list_all is_allowed cs) other in
    (allowed-meant c first.0 second.0, line_chars-meant cs first.1 second.1)

AreMeant-parts : (text : List ℕ) → AreMeant text → (scalars text ≡ true) × (list_all is_writable text ≡ true)
AreMeant-parts [] all = (refl, refl)
AreMeant-parts (c ∷ cs) all =
    let rest = AreMeant-parts cs all.1 in
    (and_from (scalar c) (scalars cs) all.0.0 rest.0, and_from (is_writable c) (list_all is_writable cs) all.0.1 rest.1)

meant-parts : (bytes : List ℕ) → IsTrue (is_line bytes) → (scalars (meant bytes) ≡ true) × (list_all is_writable (meant bytes) ≡ true)
meant-parts bytes good =
    let parts = and_parts (is_utf8 bytes) (list_all is_allowed (chars bytes)) good in
    AreMeant-parts (meant bytes) (behind-meant false (chars bytes) (line_chars-meant (chars bytes) (scalars-chars bytes (IsUtf8-from_is_utf8 bytes parts.0)) parts.1))

-- what a line's text means is a text
pub meant-text : (bytes : List ℕ) → IsTrue (is_line bytes) → IsText (meant bytes)
meant-text bytes good =
    let parts = meant-parts bytes good in
    let encoded : List ℕ = encode_utf8_all (meant bytes) in
    and_from (is_utf8 encoded) (list_all is_writable (meant bytes)) (is_utf8-from_IsUtf8 encoded (meant bytes, (parts.0, refl))) parts.1

pub meant-chars : (bytes : List ℕ) → IsTrue (is_line bytes) → chars (encode_utf8_all (meant bytes)) ≡ meant bytes
meant-chars bytes good = chars-encodes (meant bytes) (meant-parts bytes good).0

-- and so are two texts in one
pub IsText-append : (one other : List ℕ) → IsText one → IsText other → IsText (one ++ other)
IsText-append one other first second =
    let a = and_parts (is_utf8 (encode_utf8_all one)) (list_all is_writable one) first in
    let b = and_parts (is_utf8 (encode_utf8_all other)) (list_all is_writable other) second in
    let joined : IsUtf8 (encode_utf8_all one ++ encode_utf8_all other) =
    IsUtf8-append (encode_utf8_all one) (encode_utf8_all other) (IsUtf8-from_is_utf8 (encode_utf8_all one) a.0) (IsUtf8-from_is_utf8 (encode_utf8_all other) b.0) in
    and_from (is_utf8 (encode_utf8_all (one ++ other))) (list_all is_writable (one ++ other))
    (is_utf8-from_IsUtf8 (encode_utf8_all (one ++ other)) (subst IsUtf8 (sym (encodes-append one other)) joined))
    (list_all-append is_writable one other ∙ and_from (list_all is_writable one) (list_all is_writable other) a.1 b.1)

-- a text that has bytes means characters, in UTF-8 too
unescaped-some : (c : ℕ) (rest : List ℕ) → 0 < length (unescaped c ++ rest)
unescaped-some c rest = by (c == 92) (c == 110) (c == 116)
  where
    by : (slash feed tab : Bool) → 0 < length ((if slash then 92 ∷ [] else (if feed then 10 ∷ [] else (if tab then 9 ∷ [] else 92 ∷ c ∷ []))) ++ rest)
    by true feed tab = omega arith
    by false true tab = omega arith
    by false false true = omega arith
    by false false false = omega arith

behind-some : (text : List ℕ) → 0 < length (unescaped_behind true text)
behind-some [] = omega arith
behind-some (c ∷ cs) = unescaped-some c (unescaped_behind false cs)

unescaped_behind-some : (c : ℕ) (cs : List ℕ) → 0 < length (unescaped_behind false (c ∷ cs))
unescaped_behind-some c cs = by (is_backslash c)
  where
    by : (slash : Bool) → 0 < length (if slash then unescaped_behind true cs else c ∷ unescaped_behind false cs)
    by true = behind-some cs
    by false = omega arith

chars-some : (text : List ℕ) → 0 < length text → 0 < length (unescaped_behind false text)
chars-some [] some = some
chars-some (c ∷ cs) some = unescaped_behind-some c cs

pub meant-some : (c : ℕ) (cs : List ℕ) → IsTrue (is_line (c ∷ cs)) → 0 < length (encode_utf8_all (meant (c ∷ cs)))
meant-some c cs good =
    let bytes : List ℕ = c ∷ cs in
    let text = IsUtf8-from_is_utf8 bytes (and_parts (is_utf8 bytes) (list_all is_allowed (chars bytes)) good).0 in
    let some : 0 < length (chars bytes) = by (chars bytes) (encodes-chars bytes text) in
    omega (arith, length-le-encodes (meant bytes), chars-some (chars bytes) some)
  where
    by : (text : List ℕ) → encode_utf8_all text ≡ c ∷ cs → 0 < length text
    by [] e = omega (arith, ap length e)
    by (d ∷ ds) e = omega arith
