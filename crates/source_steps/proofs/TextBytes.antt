-- Places of a text and its bytes.
use Rattle.std.proofs.Common.{◌≡◌, ℕ, zero, suc, ◌-◌, ◌≤◌, List, [], ◌∷◌, ◌++◌, take, drop, length, encode_utf8_all, refl, sym, ap, ◌∙◌, subst, arith, length-append, take_at, drop_at}
use Rattle.std.proofs.lemmas.Str.{encodes-append, encodes-chars, IsCharBoundary-start}
use Rattle.std.specs.Str.{IsUtf8, IsCharBoundary, chars}
use Rattle.serna_kinds.specs.Texts.{IsPlaceIn, upto, past, removed}
use Rattle.serna_kinds.proofs.TextLemmas.{split_place, upto-before, past-before}
use Rattle.source_model.specs.Changes.{between}
use Rattle.source_primitives.proofs.Undone.{upto-past, upto-upto}

-- the part of a list from one place to another is what stands behind the first in what stands before the second
take-nil : {A : Type 0} (n : ℕ) → ◌≡◌ {A = List A} (take n []) []
take-nil zero = refl
take-nil (suc n) = refl

take-drop : {A : Type 0} (xs : List A) (from to : ℕ) → from ≤ to → take (to - from) (drop from xs) ≡ drop from (take to xs)
take-drop xs zero to within = ap (λ n. take n xs) (omega arith)
take-drop [] (suc from) (suc to) within = take-nil (suc to - suc from)
take-drop xs (suc from) zero within = absurd (omega (arith, within))
take-drop (x ∷ xs) (suc from) (suc to) within = ap (λ n. take n (drop from xs)) (omega arith) ∙ take-drop xs from to (omega (arith, within))

pub place_within : (text : List ℕ) (place : ℕ) → IsPlaceIn text place → place ≤ length (encode_utf8_all text)
place_within text place p =
    let old = ap (λ t. length (encode_utf8_all t)) p.whole in
    let one = ap length (encodes-append p.before p.behind) in
    let two = length-append (encode_utf8_all p.before) (encode_utf8_all p.behind) in
    let at = p.place in
    omega (arith, old, one, two, at)

-- a place is one at which std cuts the bytes
pub boundary : (text : List ℕ) (at : ℕ) (bytes : List ℕ) → bytes ≡ encode_utf8_all text → IsUtf8 bytes → IsPlaceIn text at → IsCharBoundary bytes at
boundary text zero bytes same u place = IsCharBoundary-start bytes u
boundary text (suc n) bytes same u place =
    subst (λ bs. IsCharBoundary bs (suc n)) (sym same) (let split = split_place text (suc n) place in (split.0, λ within. split.1 (omega arith) within))

pub boundary_of : (bytes : List ℕ) (at : ℕ) → IsUtf8 bytes → IsPlaceIn (chars bytes) at → IsCharBoundary bytes at
boundary_of bytes at u place = boundary (chars bytes) at bytes (sym (encodes-chars bytes u)) u place

-- what stands before a place, behind one, and between two
bytes_before : (text : List ℕ) (at : ℕ) → IsPlaceIn text at → take at (encode_utf8_all text) ≡ encode_utf8_all (upto at text)
bytes_before text at p =
    ap (take at) (ap encode_utf8_all p.whole ∙ encodes-append p.before p.behind)
    ∙ take_at (encode_utf8_all p.before) (encode_utf8_all p.behind) at p.place
    ∙ ap encode_utf8_all (sym (ap (upto at) p.whole ∙ upto-before p.before p.behind at p.place))

bytes_behind : (text : List ℕ) (at : ℕ) → IsPlaceIn text at → drop at (encode_utf8_all text) ≡ encode_utf8_all (past at text)
bytes_behind text at p =
    ap (drop at) (ap encode_utf8_all p.whole ∙ encodes-append p.before p.behind)
    ∙ drop_at (encode_utf8_all p.before) (encode_utf8_all p.behind) at p.place
    ∙ ap encode_utf8_all (sym (ap (past at) p.whole ∙ past-before p.before p.behind at p.place))

-- a place before another one is a place of what stands before that
place_upto : (text : List ℕ) (from to : ℕ) → IsPlaceIn text from → IsPlaceIn text to → from ≤ to → IsPlaceIn (upto to text) from
place_upto text from to p q within =
    let first : upto from text ≡ p.before = ap (upto from) p.whole ∙ upto-before p.before p.behind from p.place in
    record {
      before = p.before;
      behind = past from (upto to text);
      whole = sym (upto-past from (upto to text)) ∙ ap (λ t. t ++ past from (upto to text)) (upto-upto from to text within ∙ first);
      place = p.place;
    }

pub bytes_removed : (bytes : List ℕ) (from to : ℕ) → IsUtf8 bytes → IsPlaceIn (chars bytes) from → IsPlaceIn (chars bytes) to → take from bytes ++ drop to bytes ≡ encode_utf8_all (removed from to (chars bytes))
bytes_removed bytes from to u p q =
    let text : List ℕ = chars bytes in
    let same : bytes ≡ encode_utf8_all text = sym (encodes-chars bytes u) in
    ap (λ bs. take from bs ++ drop to bs) same
    ∙ ap (λ bs. bs ++ drop to (encode_utf8_all text)) (bytes_before text from p)
    ∙ ap (λ bs. encode_utf8_all (upto from text) ++ bs) (bytes_behind text to q)
    ∙ sym (encodes-append (upto from text) (past to text))

pub bytes_between : (bytes : List ℕ) (from to : ℕ) → IsUtf8 bytes → IsPlaceIn (chars bytes) from → IsPlaceIn (chars bytes) to → from ≤ to →
    take (to - from) (drop from bytes) ≡ encode_utf8_all (between from to (chars bytes))
bytes_between bytes from to u p q within =
    let text : List ℕ = chars bytes in
    let same : bytes ≡ encode_utf8_all text = sym (encodes-chars bytes u) in
    ap (λ bs. take (to - from) (drop from bs)) same
    ∙ take-drop (encode_utf8_all text) from to within
    ∙ ap (drop from) (bytes_before text to q)
    ∙ bytes_behind (upto to text) from (place_upto text from to p q within)

-- what stands before a place, as std cuts it
pub cut_before : (bytes : List ℕ) (at : ℕ) → take (at - 0) (drop 0 bytes) ≡ take at bytes
cut_before bytes at = ap (λ n. take n bytes) (omega arith)
