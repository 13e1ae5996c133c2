-- Where a text begins in another, by characters and by bytes.
use Rattle.std.proofs.Common.{◌≡◌, nat_eq, ℕ, zero, suc, ◌+◌, ◌<◌, ◌≤◌, Bool, true, false, List, [], ◌∷◌, ◌++◌, length, take, drop, Option, Some, None, option_map, refl, sym, ◌∙◌, ap, subst, arith, inl, inr, length-append, length-take, length-drop}
use Rattle.std.specs.List.{find, range_with_len, starts_with}
use Rattle.std.specs.Option.{MatchOption}
use Rattle.std.specs.Str.{chars, IsUtf8}
use Rattle.std.specs.Str.Pattern.{FindsText, HasTextAt, LacksTextAt}
use Rattle.std.proofs.lemmas.Bool.{cases_lt, cond-true, cond-false, false_from_ne_true}
use Rattle.std.proofs.lemmas.List.{take-append-drop, take_all, take-append-le}
use Rattle.std.proofs.lemmas.Slice.Eq.{bytes_eq-Decides}
use Rattle.std.proofs.lemmas.Str.{chars-append, encodes-chars, encodes-append, IsUtf8-append, IsUtf8-take, IsUtf8-drop, IsCharBoundary-from_drop, length-le-encodes}
use lib.Utf8.{encodes}
use denote.Ref.{Bor}
use Rattle.xpath_values.specs.Texts.{first_place, first_cut, IsFirstCut}

-- ---- a text begins with another
pub take_front : (n rest : List ℕ) → take (length n) (n ++ rest) ≡ n
take_front n rest = take-append-le (length n) n rest (omega arith) ∙ take_all (length n) n (omega arith)

pub drop_front : (n rest : List ℕ) → drop (length n) (n ++ rest) ≡ rest
drop_front [] rest = refl
drop_front (x ∷ n) rest = drop_front n rest

pub begins : (xs n : List ℕ) → starts_with nat_eq xs n ≡ true → xs ≡ n ++ drop (length n) xs
begins xs n e =
    let same : n ≡ take (length n) xs = (bytes_eq-Decides n (take (length n) xs)).0 e in
    sym (take-append-drop (length n) xs) ∙ ap (λ t. t ++ drop (length n) xs) (sym same)

pub begins_from : (xs n rest : List ℕ) → xs ≡ n ++ rest → starts_with nat_eq xs n ≡ true
begins_from xs n rest e = (bytes_eq-Decides n (take (length n) xs)).1 (sym (ap (take (length n)) e ∙ take_front n rest))

pub same_tests : (a b : Bool) → (a ≡ true → b ≡ true) → (b ≡ true → a ≡ true) → a ≡ b
same_tests true b f g = sym (f refl)
same_tests false true f g = g refl
same_tests false false f g = refl

-- a front of the characters is a front of the bytes
bytes_of : (s : List ℕ) (front back : List ℕ) → IsUtf8 s → chars s ≡ front ++ back → s ≡ encodes front ++ encodes back
bytes_of s front back u e = sym (encodes-chars s u) ∙ (ap encodes e ∙ encodes-append front back)

pub begins_same : (s n : List ℕ) → IsUtf8 s → IsUtf8 n → starts_with nat_eq s n ≡ starts_with nat_eq (chars s) (chars n)
begins_same s n u v =
    same_tests (starts_with nat_eq s n) (starts_with nat_eq (chars s) (chars n))
    (λ e. begins_from (chars s) (chars n) (chars (drop (length n) s)) (ap chars (begins s n e) ∙ chars-append n (drop (length n) s) v))
    (λ e. begins_from s n (encodes (drop (length (chars n)) (chars s))) (bytes_of s (chars n) _ u (begins (chars s) (chars n) e) ∙ ap (λ t. t ++ encodes (drop (length (chars n)) (chars s))) (encodes-chars n v)))

-- ---- the first number of a range that passes
find_none : (p : ℕ → Bool) (a n : ℕ) → ((k : ℕ) → a ≤ k → k < a + n → p k ≡ false) → find p (range_with_len a n) ≡ None
find_none p a zero h = refl
find_none p a (suc n) h =
    cond-false (p a) (Some a) (find p (range_with_len (a + 1) n)) (h a (omega arith) (omega arith))
    ∙ find_none p (a + 1) n (λ k low high. h k (omega arith) (omega arith))

find_some : (p : ℕ → Bool) (a n i : ℕ) → a ≤ i → i < a + n → p i ≡ true → ((k : ℕ) → a ≤ k → k < i → p k ≡ false) → find p (range_with_len a n) ≡ Some i
find_some p a zero i low high hit miss = absurd (omega arith)
find_some p a (suc n) i low high hit miss =
    elim (cases_lt a i) [
      | inl below ↦ cond-false (p a) (Some a) (find p (range_with_len (a + 1) n)) (miss a (omega arith) below)
          ∙ find_some p (a + 1) n i (omega arith) (omega arith) hit (λ k l h. miss k (omega arith) h)
      | inr above ↦ (let same : a ≡ i = omega arith in cond-true (p a) (Some a) (find p (range_with_len (a + 1) n)) (ap p same ∙ hit) ∙ ap Some same)
    ]

-- ---- cuts
pub at_place : (text other : List ℕ) (k : ℕ) → k ≤ length text → starts_with nat_eq (drop k text) other ≡ true → text ≡ take k text ++ (other ++ drop (length other) (drop k text))
at_place text other k le e = sym (take-append-drop k text) ∙ ap (λ t. take k text ++ t) (begins (drop k text) other e)

pub no_place : (text other : List ℕ) → ((front back : List ℕ) → text ≡ front ++ (other ++ back) → ⊥) → first_place text other ≡ None
no_place text other none =
    find_none (λ place. starts_with nat_eq (drop place text) other) 0 (length text + 1)
    (λ k low high. false_from_ne_true (starts_with nat_eq (drop k text) other) (λ e. none _ _ (at_place text other k (omega arith) e)))

pub place_of_cut : (text other before after : List ℕ) → IsFirstCut text other before after → first_place text other ≡ Some (length before)
place_of_cut text other before after cut =
    find_some (λ place. starts_with nat_eq (drop place text) other) 0 (length text + 1) (length before) (omega arith)
    (omega (arith, ap length cut.written, length-append before (other ++ after)))
    (begins_from (drop (length before) text) other after (ap (drop (length before)) cut.written ∙ drop_front before (other ++ after)))
    (λ k low high. false_from_ne_true (starts_with nat_eq (drop k text) other)
    (λ e. omega (arith, cut.first _ _ (at_place text other k (omega (arith, ap length cut.written, length-append before (other ++ after))) e), length-take k text)))

drop_cut : (before other after : List ℕ) → drop (length before + length other) (before ++ (other ++ after)) ≡ after
drop_cut [] other after = ap (λ k. drop k (other ++ after)) (omega arith) ∙ drop_front other after
drop_cut (x ∷ before) other after = ap (λ k. drop k (x ∷ (before ++ (other ++ after)))) {y = suc (length before + length other)} (omega arith) ∙ drop_cut before other after

pub first_cut_some : (text other before after : List ℕ) → IsFirstCut text other before after → first_cut text other ≡ Some (before, after)
first_cut_some text other before after cut =
    let P : List ℕ → ℕ → List ℕ × List ℕ = λ t place. (take place t, drop (place + length other) t) in
    ap (option_map (P text)) (place_of_cut text other before after cut)
    ∙ (ap (λ t. Some (P t (length before))) cut.written
    ∙ (ap (λ t. Some (t, drop (length before + length other) (before ++ (other ++ after)))) (take_front before (other ++ after)) ∙ ap (λ t. Some (before, t)) (drop_cut before other after)))

pub first_cut_none : (text other : List ℕ) → ((front back : List ℕ) → text ≡ front ++ (other ++ back) → ⊥) → first_cut text other ≡ None
first_cut_none text other none = ap (option_map _) (no_place text other none)

-- ---- a cut of the bytes is a cut of the characters
front_more : (front a cs b : List ℕ) → front ++ a ≡ cs ++ b → length front ≤ length cs → cs ≡ front ++ drop (length front) cs
front_more front a cs b e le =
    let same : take (length front) cs ≡ front = sym (take-append-le (length front) cs b le) ∙ (ap (take (length front)) (sym e) ∙ take_front front a) in
    sym (take-append-drop (length front) cs) ∙ ap (λ t. t ++ drop (length front) cs) same

-- fewer characters take fewer bytes, where both stand at the front of one text
fewer_bytes : (front a cs b : List ℕ) → front ++ a ≡ cs ++ b → length front < length cs → length (encodes front) < length (encodes cs)
fewer_bytes front a cs b e lt =
    let more : List ℕ = drop (length front) cs in
    let whole : cs ≡ front ++ more = front_more front a cs b e (omega arith) in
    let size : length (encodes cs) ≡ length (encodes front) + length (encodes more) = ap (λ t. length (encodes t)) whole ∙ (ap length (encodes-append front more) ∙ length-append (encodes front) (encodes more)) in
    omega (arith, size, length-le-encodes more, length-drop (length front) cs)

record IsByteCut (s n x y : List ℕ) : Type 0 where
  whole : s ≡ x ++ (n ++ y)
  utf8 : IsUtf8 x
  first : (front back : List ℕ) → s ≡ front ++ (n ++ back) → length x ≤ length front

byte_cut : (s n : List ℕ) (i j : ℕ) (x y : List ℕ) → IsUtf8 s → IsUtf8 n → ((k : ℕ) → k < i → LacksTextAt n s k) → HasTextAt n s i j → x ≡ take i s → y ≡ drop j s → i ≤ length s → IsByteCut s n x y
byte_cut s n i j x y u v lacks has ex ey le =
    let behind : IsUtf8 (drop j s) = subst (λ k. IsUtf8 (drop k s)) (sym has.ends) (IsUtf8-drop s (i + length n) u has.after) in
    let from : IsUtf8 (drop i s) = subst IsUtf8 (sym has.split) (IsUtf8-append n (drop j s) v behind) in
    record {
      whole = sym (take-append-drop i s) ∙ (ap (λ t. take i s ++ t) has.split ∙ cc (ex, ey));
      utf8 = subst IsUtf8 (sym ex) (IsUtf8-take s i u (IsCharBoundary-from_drop s i le from));
      first = λ front back e.
          elim (cases_lt (length front) i) [
            | inl below ↦ absurd (lacks (length front) below back (ap (drop (length front)) e ∙ drop_front front (n ++ back)))
            | inr above ↦ omega (arith, ap length ex, length-take i s)
          ];
    }

char_cut : (s n x y : List ℕ) → IsUtf8 s → IsUtf8 n → IsByteCut s n x y → IsFirstCut (chars s) (chars n) (chars x) (chars y)
char_cut s n x y u v cut =
    let written : chars s ≡ chars x ++ (chars n ++ chars y) = ap chars cut.whole ∙ (chars-append x (n ++ y) cut.utf8 ∙ ap (λ t. chars x ++ t) (chars-append n y v)) in
    record {
      written = written;
      first = λ front back e.
          elim (cases_lt (length front) (length (chars x))) [
            | inl below ↦
                let bytes : s ≡ encodes front ++ (n ++ encodes back) = bytes_of s front (chars n ++ back) u e ∙ ap (λ t. encodes front ++ t) (encodes-append (chars n) back ∙ ap (λ t. t ++ encodes back) (encodes-chars n v)) in
                let fewer : length (encodes front) < length (encodes (chars x)) = fewer_bytes front (chars n ++ back) (chars x) (chars n ++ chars y) (sym e ∙ written) below in
                absurd (omega (arith, cut.first (encodes front) (encodes back) bytes, fewer, ap length (encodes-chars x cut.utf8)))
            | inr above ↦ above
          ];
    }

abbrev IsSplit : List ℕ → List ℕ → Option (Bor (List ℕ) × Bor (List ℕ)) → Type 0
IsSplit n s r = MatchOption r (FindsText n s None) (λ x. (i : ℕ) × (j : ℕ) × FindsText n s (Some (i, j)) × (x.0.now ≡ take i s) × (x.1.now ≡ drop j s) × (i ≤ j) × (length x.0.now ≡ i) × (length x.1.now + j ≡ length s))

-- what `split_once` gives is the first cut
pub first_cut_split : (s n : List ℕ) (r : Option (Bor (List ℕ) × Bor (List ℕ))) → IsUtf8 s → IsUtf8 n → IsSplit n s r →
    option_map {T = Bor (List ℕ) × Bor (List ℕ)} {U = List ℕ × List ℕ} (λ cut. (chars cut.0.now, chars cut.1.now)) r ≡ first_cut (chars s) (chars n)
first_cut_split s n None u v h =
    sym (first_cut_none (chars s) (chars n)
    (λ front back e.
    let bytes : s ≡ encodes front ++ (n ++ encodes back) = bytes_of s front (chars n ++ back) u e ∙ ap (λ t. encodes front ++ t) (encodes-append (chars n) back ∙ ap (λ t. t ++ encodes back) (encodes-chars n v)) in
    h (length (encodes front)) (omega (arith, ap length bytes, length-append (encodes front) (n ++ encodes back))) (encodes back) (ap (drop (length (encodes front))) bytes ∙ drop_front (encodes front) (n ++ encodes back))))
first_cut_split s n (Some x) u v (i, j, (lacks, has), ex, ey, le, lx, ly) =
    sym (first_cut_some (chars s) (chars n) (chars x.0.now) (chars x.1.now)
    (char_cut s n x.0.now x.1.now u v (byte_cut s n i j x.0.now x.1.now u v lacks has ex ey (omega arith))))
