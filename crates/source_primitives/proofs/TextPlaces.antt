-- Places between the characters of a text, and where they are after an insertion.
use Rattle.std.proofs.Common.{◌≡◌, ℕ, ◌+◌, ◌<◌, ◌≤◌, Bool, true, false, nat_lt, List, [], ◌∷◌, ◌++◌, length, encode_utf8_all, if◌then◌else◌, refl, sym, ap, ◌∙◌, arith, append_assoc, length-append}
use Rattle.std.specs.Char.{encode_utf8}
use Rattle.std.proofs.lemmas.Bool.{ltb-true, ltb-false}
use Rattle.std.proofs.lemmas.List.{append-nil}
use Rattle.std.proofs.lemmas.Str.{encodes-append}
use Rattle.serna_kinds.specs.Texts.{IsPlaceIn, inserted}
use Rattle.serna_kinds.proofs.TextLemmas.{starts_one, inserted-at}
use Rattle.source_primitives.specs.Places.{behind_insertion}

abbrev pub size : List ℕ → ℕ
size text = length (encode_utf8_all text)

pub size-append : (a b : List ℕ) → size (a ++ b) ≡ size a + size b
size-append a b = ap length (encodes-append a b) ∙ length-append (encode_utf8_all a) (encode_utf8_all b)

-- of two splittings of one text the one that is cut later has what lies between
pub record Between (a b c d : List ℕ) : Type 0 where
  pub more : List ℕ
  pub later : c ≡ a ++ more
  pub left : b ≡ more ++ d

pub between : (a b c d : List ℕ) → a ++ b ≡ c ++ d → size a ≤ size c → Between a b c d
between [] b c d e le = record { more = c; later = refl; left = e }
between (x ∷ a) b [] d e le = absurd (omega (arith, le, length-append (encode_utf8 x) (encode_utf8_all a), (starts_one x).0))
between (x ∷ a) b (y ∷ c) d e le =
    let same : x ≡ y = cc in
    let tails : a ++ b ≡ c ++ d = cc in
    let one : length (encode_utf8 x) ≡ length (encode_utf8 y) = ap (λ z. length (encode_utf8 z)) same in
    let i = between a b c d tails (omega (arith, le, one, length-append (encode_utf8 x) (encode_utf8_all a), length-append (encode_utf8 y) (encode_utf8_all c))) in
    record { more = i.more; later = ap (λ z. z ∷ c) (sym same) ∙ ap (λ z. x ∷ z) i.later; left = i.left }

-- a place at or before an insertion's place stays
stays : (text piece : List ℕ) (from at : ℕ) → IsPlaceIn text from → IsPlaceIn text at → at ≤ from → IsPlaceIn (inserted from piece text) at
stays text piece from at f p le =
    let m = between p.before p.behind f.before f.behind (sym p.whole ∙ f.whole) (omega (arith, le, p.place, f.place)) in
    record {
      before = p.before;
      behind = m.more ++ (piece ++ f.behind);
      whole = inserted-at text piece from f ∙ ap (λ b. b ++ (piece ++ f.behind)) m.later ∙ append_assoc p.before m.more (piece ++ f.behind);
      place = p.place;
    }

-- a place behind it moves
moves : (text piece : List ℕ) (from at : ℕ) → IsPlaceIn text from → IsPlaceIn text at → from ≤ at → IsPlaceIn (inserted from piece text) (at + size piece)
moves text piece from at f p le =
    let m = between f.before f.behind p.before p.behind (sym f.whole ∙ p.whole) (omega (arith, le, p.place, f.place)) in
    record {
      before = f.before ++ (piece ++ m.more);
      behind = p.behind;
      whole = inserted-at text piece from f ∙ ap (λ b. f.before ++ (piece ++ b)) m.left ∙ ap (λ b. f.before ++ b) (sym (append_assoc piece m.more p.behind))
          ∙ sym (append_assoc f.before (piece ++ m.more) p.behind);
      place = size-append f.before (piece ++ m.more) ∙ ap (λ n. size f.before + n) (size-append piece m.more)
          ∙ (let whole : size p.before ≡ size f.before + size m.more = ap size m.later ∙ size-append f.before m.more in omega (arith, whole, p.place));
    }

pub by_test : (P : ℕ → Type 0) (b : Bool) (x y : ℕ) → (b ≡ true → P x) → (b ≡ false → P y) → P (if b then x else y)
by_test P true x y p q = p refl
by_test P false x y p q = q refl

pub place_carried : (text piece : List ℕ) (from at : ℕ) → IsPlaceIn text from → IsPlaceIn text at → IsPlaceIn (inserted from piece text) (behind_insertion from (size piece) at)
place_carried text piece from at f p =
    by_test (λ n. IsPlaceIn (inserted from piece text) n) (nat_lt from at) (at + size piece) at
    (λ t. let lt : from < at = ltb-true from at t in moves text piece from at f p (omega (arith, lt))) (λ t. stays text piece from at f p (ltb-false from at t))

-- the end of what was put in
pub place_behind : (text piece : List ℕ) (from : ℕ) → IsPlaceIn text from → IsPlaceIn (inserted from piece text) (from + size piece)
place_behind text piece from f = record {
  before = f.before ++ piece;
  behind = f.behind;
  whole = inserted-at text piece from f ∙ sym (append_assoc f.before piece f.behind);
  place = size-append f.before piece ∙ ap (λ n. n + size piece) f.place;
}

-- the start and the end of a text
pub place_start : (text : List ℕ) → IsPlaceIn text 0
place_start text = record { before = []; behind = text; whole = refl; place = refl }

pub place_end : (text : List ℕ) → IsPlaceIn text (size text)
place_end text = record { before = text; behind = []; whole = sym (append-nil text); place = refl }

pub ruleset all = place_carried
