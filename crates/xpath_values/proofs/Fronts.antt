-- A text parted behind so many characters.
use Rattle.std.proofs.Common.{◌≡◌, ℕ, ◌+◌, ◌-◌, ◌≤◌, true, false, Option, Some, None, is_some, List, [], ◌∷◌, ◌++◌, length, take, drop, refl, sym, ◌∙◌, ap, subst, arith, append_assoc, length-append}
use Rattle.std.specs.Str.{chars, IsUtf8, IsCharBoundary}
use Rattle.std.proofs.lemmas.Bool.{and_parts}
use Rattle.std.proofs.lemmas.List.{take_all, drop_all}
use Rattle.std.proofs.lemmas.Str.{chars-nil, chars-append, scalars-chars, chars_past_char, IsUtf8-nil, IsUtf8-append, IsUtf8-encode, IsUtf8-past_char, IsCharBoundary-at_seam}
use Rattle.std.proofs.iter.TextItems.{spells}
use Rattle.std.specs.declared.str.Chars.{Chars}
use lib.Utf8.{encode, scalar, scalars}
use Rattle.xpath_values.proofs.Characters.{chars-push, chars_none}
use Rattle.xpath_values.proofs.Places.{take_front, drop_front}

pub record IsParted (text front rest : List ℕ) (count : ℕ) : Type 0 where
  pub whole : text ≡ front ++ rest
  pub front_utf8 : IsUtf8 front
  pub rest_utf8 : IsUtf8 rest
  pub size : length (chars front) ≡ count

pub parted_none : (text : List ℕ) → IsUtf8 text → IsParted text [] text 0
parted_none text u = record { whole = refl; front_utf8 = IsUtf8-nil; rest_utf8 = u; size = ap length chars-nil }

first_scalar : (c : ℕ) (bs rest : List ℕ) → IsUtf8 bs → bs ≡ encode c ++ rest → scalar c ≡ true
first_scalar c bs rest u e = (and_parts (scalar c) (scalars (chars rest)) (sym (ap scalars (chars_past_char bs rest c u e)) ∙ scalars-chars bs u)).0

pub parted_more : (text front rest behind : List ℕ) (c count : ℕ) → IsParted text front rest count → rest ≡ encode c ++ behind → IsParted text (front ++ encode c) behind (count + 1)
parted_more text front rest behind c count is e =
    let s = first_scalar c rest behind is.rest_utf8 e in
    record {
      whole = is.whole ∙ (ap (λ t. front ++ t) e ∙ sym (append_assoc front (encode c) behind));
      front_utf8 = IsUtf8-append front (encode c) is.front_utf8 (IsUtf8-encode c s);
      rest_utf8 = IsUtf8-past_char rest behind c is.rest_utf8 e;
      size = omega (arith, ap length (chars-push front c is.front_utf8 s), length-append (chars front) (c ∷ []), is.size);
    }

in_chars : (text front rest : List ℕ) (count : ℕ) → IsParted text front rest count → chars text ≡ chars front ++ chars rest
in_chars text front rest count is = ap chars is.whole ∙ chars-append front rest is.front_utf8

pub parted_front : (text front rest : List ℕ) (count : ℕ) → IsParted text front rest count → chars front ≡ take count (chars text)
parted_front text front rest count is =
    sym (ap (take count) (in_chars text front rest count is) ∙ (ap (λ k. take k (chars front ++ chars rest)) (sym is.size) ∙ take_front (chars front) (chars rest)))

pub parted_rest : (text front rest : List ℕ) (count : ℕ) → IsParted text front rest count → chars rest ≡ drop count (chars text)
parted_rest text front rest count is =
    sym (ap (drop count) (in_chars text front rest count is) ∙ (ap (λ k. drop k (chars front ++ chars rest)) (sym is.size) ∙ drop_front (chars front) (chars rest)))

-- a text with no more characters than that
short : (text front rest : List ℕ) (k count : ℕ) → IsParted text front rest k → length rest ≡ 0 → k ≤ count → length (chars text) ≤ count
short text front rest k count is none le =
    omega (arith, ap length (in_chars text front rest k is), length-append (chars front) (chars rest), ap length (chars_none rest none), is.size)

pub short_front : (text front rest : List ℕ) (k count : ℕ) → IsParted text front rest k → length rest ≡ 0 → k ≤ count → chars text ≡ take count (chars text)
short_front text front rest k count is none le = sym (take_all count (chars text) (short text front rest k count is none le))

pub short_rest : (text front rest : List ℕ) (k count : ℕ) → IsParted text front rest k → length rest ≡ 0 → k ≤ count → chars [] ≡ drop count (chars text)
short_rest text front rest k count is none le = chars-nil ∙ sym (drop_all count (chars text) (short text front rest k count is none le))

-- where the text is cut
cut_place : (text front rest : List ℕ) → text ≡ front ++ rest → length text - length rest ≡ length front
cut_place text front rest e = omega (arith, ap length e, length-append front rest)

pub cut_front : (text front rest : List ℕ) → text ≡ front ++ rest → take (length text - length rest) text ≡ front
cut_front text front rest e = ap (λ k. take k text) (cut_place text front rest e) ∙ (ap (take (length front)) e ∙ take_front front rest)

pub cut_rest : (text front rest : List ℕ) → text ≡ front ++ rest → drop (length text - length rest) text ≡ rest
cut_rest text front rest e = ap (λ k. drop k text) (cut_place text front rest e) ∙ (ap (drop (length front)) e ∙ drop_front front rest)

pub cut_boundary : (text front rest : List ℕ) → text ≡ front ++ rest → IsUtf8 rest → IsCharBoundary text (length text - length rest)
cut_boundary text front rest e u = subst (IsCharBoundary text) (sym (cut_place text front rest e)) (IsCharBoundary-at_seam text front rest e u)

pub cut_fits : (text front rest : List ℕ) → text ≡ front ++ rest → length rest ≤ length text
cut_fits text front rest e = omega (arith, ap length e, length-append front rest)

-- what a call of `next` of the characters tells
pub at_end : (s t : Chars) (r : Option ℕ) → is_some r ≡ false → spells s r t → length s.rest.now ≡ 0
at_end s t None e h = h.0.0
at_end s t (Some c) e h = absurd (cc)

pub at_more : (s t : Chars) (r : Option ℕ) → is_some r ≡ true → spells s r t → (c : ℕ) × (s.rest.now ≡ encode c ++ t.rest.now)
at_more s t None e h = absurd (cc)
at_more s t (Some c) e h = (c, h.0)

-- when the count is reached
pub ended : (text rest out : List ℕ) (counter count : ℕ) → (front : List ℕ) × IsParted text front rest counter → counter ≡ count → out ≡ rest → (front : List ℕ) × IsParted text front out count
ended text rest out counter count (front, is) e f = (front, subst (λ k. IsParted text front out k) e (subst (λ t. IsParted text front t counter) (sym f) is))
