-- A new text or comment among children, and a text with a piece put in.
use Rattle.std.proofs.Common.{◌≡◌, ◌≢◌, ℕ, zero, suc, ◌+◌, ◌==◌, ◌≤◌, inl, inr, List, [], ◌++◌, length, if◌then◌else◌, encode_utf8_all, sym, ap, ◌∙◌, arith, length-append}
use Rattle.std.proofs.lemmas.Bool.{cases_eq}
use Rattle.std.proofs.lemmas.List.{nil_from_length}
use Rattle.std.proofs.lemmas.Str.{encodes-append}
use Rattle.serna_kinds.specs.Limits.{text_limit}
use Rattle.serna_kinds.specs.Texts.{IsPlaceIn, inserted}
use Rattle.serna_kinds.proofs.TextLemmas.{inserted-at}
use Rattle.source_model.specs.Source.{Body, Root, Element, Text, Comment, Forest, none, node}
use Rattle.source_model.specs.Changes.{inserted_at}
use Rattle.source_model.specs.Proper.{uses, depth_of, IsShort}
use Rattle.source_primitives.proofs.Around.{count_same, count_other}

-- a new text or comment among children
abbrev pub IsLeafBody : Body → Type 0
IsLeafBody Root = ⊥
IsLeafBody (Element name attributes) = ⊥
IsLeafBody (Text text) = Unit {0}
IsLeafBody (Comment text) = Unit {0}

depth_of-first : (m : ℕ) (b : Body) (rest : Forest) → IsLeafBody b → depth_of (node m b none rest) ≤ depth_of rest
depth_of-first m Root rest is = absurd is
depth_of-first m (Element name attributes) rest is = absurd is
depth_of-first m (Text text) rest is = omega arith
depth_of-first m (Comment text) rest is = omega arith

pub depth_of-inserted_at : (i m : ℕ) (b : Body) (f : Forest) → IsLeafBody b → depth_of (inserted_at i (node m b none none) f) ≤ depth_of f
depth_of-inserted_at zero m b f is = depth_of-first m b f is
depth_of-inserted_at (suc i) m b none is = depth_of-first m b none is
depth_of-inserted_at (suc i) m b (node k Root kids rest) is = let h = depth_of-inserted_at i m b rest is in omega (arith, h)
depth_of-inserted_at (suc i) m b (node k (Element name attributes) kids rest) is = let h = depth_of-inserted_at i m b rest is in omega (arith, h)
depth_of-inserted_at (suc i) m b (node k (Text text) kids rest) is = let h = depth_of-inserted_at i m b rest is in omega (arith, h)
depth_of-inserted_at (suc i) m b (node k (Comment text) kids rest) is = let h = depth_of-inserted_at i m b rest is in omega (arith, h)

pub uses-inserted_at : (k i m : ℕ) (b : Body) (f : Forest) → uses k (inserted_at i (node m b none none) f) ≡ uses k f + (if k == m then 1 else 0)
uses-inserted_at k zero m b f = omega arith
uses-inserted_at k (suc i) m b none = omega arith
uses-inserted_at k (suc i) m b (node n body kids rest) = let h = uses-inserted_at k i m b rest in omega (arith, h)

pub once_more : (k m x y : ℕ) → y ≡ x + (if k == m then 1 else 0) → x ≤ 1 → (k ≡ m → x ≡ 0) → y ≤ 1
once_more k m x y e once fresh = elim (cases_eq k m) [
  | inl same ↦ let own = count_same k m same in let none_yet = fresh same in omega (arith, own, none_yet, e)
  | inr other ↦ let own = count_other k m other in omega (arith, own, once, e)
]

-- a text with a piece put in has the characters of both, and their bytes
pub still_some : (text piece : List ℕ) (place : ℕ) → IsPlaceIn text place → text ≢ [] → inserted place piece text ≢ []
still_some text piece place p some none_left =
    let two : length (p.before ++ (piece ++ p.behind)) ≡ 0 = ap length (sym (inserted-at text piece place p) ∙ none_left) in
    let one = ap length p.whole in
    some (nil_from_length text (omega (arith, one, two, length-append p.before p.behind, length-append p.before (piece ++ p.behind), length-append piece p.behind)))

pub still_short : (text piece : List ℕ) (place : ℕ) → IsPlaceIn text place → length (encode_utf8_all text) + length (encode_utf8_all piece) ≤ text_limit → IsShort (inserted place piece text)
still_short text piece place p room =
    let new = ap (λ t. length (encode_utf8_all t)) (inserted-at text piece place p) in
    let old = ap (λ t. length (encode_utf8_all t)) p.whole in
    let one = ap length (encodes-append p.before p.behind) in
    let two = ap length (encodes-append p.before (piece ++ p.behind)) in
    let three = ap length (encodes-append piece p.behind) in
    let four = length-append (encode_utf8_all p.before) (encode_utf8_all p.behind) in
    let five = length-append (encode_utf8_all p.before) (encode_utf8_all (piece ++ p.behind)) in
    let six = length-append (encode_utf8_all piece) (encode_utf8_all p.behind) in
    omega (arith, new, old, one, two, three, four, five, six, room)

pub place_within : (text : List ℕ) (place : ℕ) → IsPlaceIn text place → place ≤ length (encode_utf8_all text)
place_within text place p =
    let old = ap (λ t. length (encode_utf8_all t)) p.whole in
    let one = ap length (encodes-append p.before p.behind) in
    let two = length-append (encode_utf8_all p.before) (encode_utf8_all p.behind) in
    let at = p.place in
    omega (arith, old, one, two, at)
