-- What a prim puts in keeps a source such that its lines read back.
use Rattle.std.proofs.Common.{◌≡◌, ℕ, zero, suc, Bool, true, List, [], ◌∷◌, ◌++◌, encode_utf8_all, refl, sym, ap, ◌∙◌, subst}
use Rattle.std.specs.List.{list_all}
use Rattle.std.specs.Str.{is_utf8}
use Rattle.std.proofs.Math.Utf8.{scalar, scalars}
use Rattle.std.proofs.lemmas.Bool.{and_parts, and_from}
use Rattle.std.proofs.lemmas.Str.{encodes_same, IsUtf8-from_is_utf8, is_utf8-from_IsUtf8}
use Rattle.serna_kinds.specs.Names.{NameParts, Space}
use Rattle.serna_kinds.specs.Texts.{IsPlaceIn, inserted}
use Rattle.serna_kinds.proofs.TextLemmas.{inserted-at}
use Rattle.tree_lines.specs.Writable.{is_writable, IsText, AreNodes}
use Rattle.tree_lines.proofs.MeantTexts.{IsText-append}
use Rattle.source_model.specs.Source.{Body, Root, Element, Text, Comment, Forest, none, node}
use Rattle.source_model.specs.Changes.{inserted_at}
use Rattle.source_tree.specs.Unnumbered.{unnumbered}
use Rattle.source_primitives.proofs.Around.{Around, here, below, beside, plug}

-- the parts of a text are texts
scalars-text : (t : List ℕ) → IsText t → scalars t ≡ true
scalars-text t good =
    let utf8 = IsUtf8-from_is_utf8 (encode_utf8_all t) (and_parts (is_utf8 (encode_utf8_all t)) (list_all is_writable t) good).0 in
    sym (ap scalars (encodes_same utf8.0 t utf8.1.1)) ∙ utf8.1.0

writable-text : (t : List ℕ) → IsText t → list_all is_writable t ≡ true
writable-text t good = (and_parts (is_utf8 (encode_utf8_all t)) (list_all is_writable t) good).1

text_from : (t : List ℕ) → scalars t ≡ true → list_all is_writable t ≡ true → IsText t
text_from t scalar_all writable =
    and_from (is_utf8 (encode_utf8_all t)) (list_all is_writable t) (is_utf8-from_IsUtf8 (encode_utf8_all t) (t, (scalar_all, refl))) writable

all_parts : (p : ℕ → Bool) (xs ys : List ℕ) → list_all p (xs ++ ys) ≡ true → (list_all p xs ≡ true) × (list_all p ys ≡ true)
all_parts p [] ys all = (refl, all)
all_parts p (x ∷ xs) ys all =
    let first = and_parts (p x) (list_all p (xs ++ ys)) all in
    let rest = all_parts p xs ys first.1 in
    (and_from (p x) (list_all p xs) first.0 rest.0, rest.1)

scalars_parts : (xs ys : List ℕ) → scalars (xs ++ ys) ≡ true → (scalars xs ≡ true) × (scalars ys ≡ true)
scalars_parts [] ys all = (refl, all)
scalars_parts (x ∷ xs) ys all =
    let first = and_parts (scalar x) (scalars (xs ++ ys)) all in
    let rest = scalars_parts xs ys first.1 in
    (and_from (scalar x) (scalars xs) first.0 rest.0, rest.1)

IsText-parts : (one other : List ℕ) → IsText (one ++ other) → IsText one × IsText other
IsText-parts one other good =
    let a = scalars_parts one other (scalars-text (one ++ other) good) in
    let b = all_parts is_writable one other (writable-text (one ++ other) good) in
    (text_from one a.0 b.0, text_from other a.1 b.1)

pub IsText-inserted : (text piece : List ℕ) (place : ℕ) → IsPlaceIn text place → IsText text → IsText piece → IsText (inserted place piece text)
IsText-inserted text piece place p good more =
    let parts = IsText-parts p.before p.behind (subst IsText p.whole good) in
    subst IsText (sym (inserted-at text piece place p)) (IsText-append p.before (piece ++ p.behind) parts.0 (IsText-append piece p.behind more parts.1))

-- what is written of a forest around one of its nodes
pub writable-plug : (names : List NameParts) (spaces : List Space) (a : Around) (f g : Forest) → (AreNodes names spaces (unnumbered f) → AreNodes names spaces (unnumbered g)) →
    AreNodes names spaces (unnumbered (plug a f)) → AreNodes names spaces (unnumbered (plug a g))
writable-plug names spaces here f g own h = own h
writable-plug names spaces (below k Root a rest) f g own h = h
writable-plug names spaces (below k (Element name attributes) a rest) f g own h = (h.0, h.1, h.2, writable-plug names spaces a f g own h.3, h.4)
writable-plug names spaces (below k (Text text) a rest) f g own h = h
writable-plug names spaces (below k (Comment text) a rest) f g own h = h
writable-plug names spaces (beside k Root kids a) f g own h = writable-plug names spaces a f g own h
writable-plug names spaces (beside k (Element name attributes) kids a) f g own h = (h.0, h.1, h.2, h.3, writable-plug names spaces a f g own h.4)
writable-plug names spaces (beside k (Text text) kids a) f g own h = (h.0, writable-plug names spaces a f g own h.1)
writable-plug names spaces (beside k (Comment text) kids a) f g own h = (h.0, writable-plug names spaces a f g own h.1)

-- and of neighbours with one more among them
abbrev pub IsWritableLeaf : Body → Type 0
IsWritableLeaf Root = ⊥
IsWritableLeaf (Element name attributes) = ⊥
IsWritableLeaf (Text text) = IsText text
IsWritableLeaf (Comment text) = IsText text

writable-first : (names : List NameParts) (spaces : List Space) (m : ℕ) (b : Body) (f : Forest) → IsWritableLeaf b → AreNodes names spaces (unnumbered f) →
    AreNodes names spaces (unnumbered (node m b none f))
writable-first names spaces m Root f is h = absurd is
writable-first names spaces m (Element name attributes) f is h = absurd is
writable-first names spaces m (Text text) f is h = (is, h)
writable-first names spaces m (Comment text) f is h = (is, h)

pub writable-inserted_at : (names : List NameParts) (spaces : List Space) (i m : ℕ) (b : Body) (f : Forest) → IsWritableLeaf b → AreNodes names spaces (unnumbered f) →
    AreNodes names spaces (unnumbered (inserted_at i (node m b none none) f))
writable-inserted_at names spaces zero m b f is h = writable-first names spaces m b f is h
writable-inserted_at names spaces (suc i) m b none is h = writable-first names spaces m b none is h
writable-inserted_at names spaces (suc i) m b (node k Root kids rest) is h = writable-inserted_at names spaces i m b rest is h
writable-inserted_at names spaces (suc i) m b (node k (Element name attributes) kids rest) is h = (h.0, h.1, h.2, h.3, writable-inserted_at names spaces i m b rest is h.4)
writable-inserted_at names spaces (suc i) m b (node k (Text text) kids rest) is h = (h.0, writable-inserted_at names spaces i m b rest is h.1)
writable-inserted_at names spaces (suc i) m b (node k (Comment text) kids rest) is h = (h.0, writable-inserted_at names spaces i m b rest is h.1)
