-- The document of a proper source is within the limits of what can be read.
use Rattle.std.proofs.Common.{◌≡◌, ℕ, zero, suc, ◌+◌, ◌<◌, ◌≤◌, inl, inr, List, refl, sym, ap, subst, arith}
use Rattle.std.proofs.lemmas.Bool.{cases_eq}
use Rattle.serna_kinds.specs.Names.{NameParts}
use Rattle.tree_lines.specs.Given.{Given, count_of, AreTexts, IsWhole}
use Rattle.tree_lines.specs.Given as given
use Rattle.source_model.specs.Source.{Body, Root, Element, Text, Comment, Forest, none, node, Source}
use Rattle.source_model.specs.Proper.{uses, depth_of, BeginsNoText, AreNodes, AreComments, IsTop, IsProper}
use Rattle.source_tree.specs.Unnumbered.{unnumbered, below_document, document_of}
use Rattle.source_primitives.proofs.Around.{count_same}

comments_unnumbered : (f : Forest) → AreComments f → given.AreComments (unnumbered f)
comments_unnumbered none are = tt
comments_unnumbered (node n Root kids rest) are = absurd are
comments_unnumbered (node n (Element name attributes) kids rest) are = absurd are
comments_unnumbered (node n (Text text) kids rest) are = absurd are
comments_unnumbered (node n (Comment text) kids rest) are = comments_unnumbered rest are

top_unnumbered : (f : Forest) → IsTop f → given.IsTop (unnumbered f)
top_unnumbered none is = absurd is
top_unnumbered (node n Root kids rest) is = absurd is
top_unnumbered (node n (Element name attributes) kids rest) is = comments_unnumbered rest is
top_unnumbered (node n (Text text) kids rest) is = absurd is
top_unnumbered (node n (Comment text) kids rest) is = top_unnumbered rest is

no_text_first : (names : List NameParts) (f : Forest) → AreNodes names f → BeginsNoText f → given.BeginsNoText (unnumbered f)
no_text_first names none are begins = tt
no_text_first names (node n Root kids rest) are begins = absurd are
no_text_first names (node n (Element name attributes) kids rest) are begins = tt
no_text_first names (node n (Text text) kids rest) are begins = absurd begins
no_text_first names (node n (Comment text) kids rest) are begins = tt

texts_unnumbered : (names : List NameParts) (f : Forest) → AreNodes names f → AreTexts (unnumbered f)
texts_unnumbered names none are = tt
texts_unnumbered names (node n Root kids rest) are = absurd are
texts_unnumbered names (node n (Element name attributes) kids rest) are = (are.1.1, texts_unnumbered names kids are.2, texts_unnumbered names rest are.3)
texts_unnumbered names (node n (Text text) kids rest) are = (are.0, are.1, no_text_first names rest are.4 are.3, texts_unnumbered names rest are.4)
texts_unnumbered names (node n (Comment text) kids rest) are = texts_unnumbered names rest are.1

depth_unnumbered : (f : Forest) → given.depth_of (unnumbered f) ≤ depth_of f
depth_unnumbered none = omega arith
depth_unnumbered (node n Root kids rest) = let h = depth_unnumbered rest in omega (arith, h)
depth_unnumbered (node n (Element name attributes) kids rest) =
    let h = depth_unnumbered kids in
    let i = depth_unnumbered rest in
    omega (arith, h, i)
depth_unnumbered (node n (Text text) kids rest) = let h = depth_unnumbered rest in omega (arith, h)
depth_unnumbered (node n (Comment text) kids rest) = let h = depth_unnumbered rest in omega (arith, h)

-- how often the numbers up to a bound stand in a forest, together
abbrev together : ℕ → Forest → ℕ
together zero f = uses 0 f
together (suc bound) f = uses (suc bound) f + together bound f

together-once : (bound : ℕ) (f : Forest) → ((n : ℕ) → uses n f ≤ 1) → together bound f ≤ bound + 1
together-once zero f once = let h = once 0 in omega (arith, h)
together-once (suc bound) f once =
    let h = once (suc bound) in
    let i = together-once bound f once in
    omega (arith, h, i)

together-node : (bound k : ℕ) (body : Body) (kids rest : Forest) →
    together bound (node k body kids rest) ≡ together bound (node k Root none none) + together bound kids + together bound rest
together-node zero k body kids rest = omega arith
together-node (suc bound) k body kids rest = let h = together-node bound k body kids rest in omega (arith, h)

together-own : (bound k : ℕ) → k ≤ bound → 1 ≤ together bound (node k Root none none)
together-own zero k within = let own = count_same 0 k (omega (arith, within)) in omega (arith, own)
together-own (suc bound) k within = elim (cases_eq (suc bound) k) [
  | inl same ↦ let own = count_same (suc bound) k same in omega (arith, own)
  | inr other ↦ let h = together-own bound k (omega (arith, within, other)) in omega (arith, h)
]

abbrev AreUpTo : ℕ → Forest → Type 0
AreUpTo bound f = (n : ℕ) → 0 < uses n f → n ≤ bound

own_within : (bound k : ℕ) (body : Body) (kids rest : Forest) → AreUpTo bound (node k body kids rest) → k ≤ bound
own_within bound k body kids rest all = all k (let own = count_same k k refl in omega (arith, own))

-- there are as many nodes as numbers
count_unnumbered : (bound : ℕ) (f : Forest) → AreUpTo bound f → count_of (unnumbered f) ≤ together bound f
count_unnumbered bound none all = omega arith
count_unnumbered bound (node k Root kids rest) all =
    let i = count_unnumbered bound rest (λ n used. all n (omega (arith, used))) in
    let sum = together-node bound k Root kids rest in
    omega (arith, i, sum)
count_unnumbered bound (node k (Element name attributes) kids rest) all =
    let own = together-own bound k (own_within bound k (Element name attributes) kids rest all) in
    let h = count_unnumbered bound kids (λ n used. all n (omega (arith, used))) in
    let i = count_unnumbered bound rest (λ n used. all n (omega (arith, used))) in
    let sum = together-node bound k (Element name attributes) kids rest in
    omega (arith, own, h, i, sum)
count_unnumbered bound (node k (Text text) kids rest) all =
    let own = together-own bound k (own_within bound k (Text text) kids rest all) in
    let i = count_unnumbered bound rest (λ n used. all n (omega (arith, used))) in
    let sum = together-node bound k (Text text) kids rest in
    omega (arith, own, i, sum)
count_unnumbered bound (node k (Comment text) kids rest) all =
    let own = together-own bound k (own_within bound k (Comment text) kids rest all) in
    let i = count_unnumbered bound rest (λ n used. all n (omega (arith, used))) in
    let sum = together-node bound k (Comment text) kids rest in
    omega (arith, own, i, sum)

-- the document node's own number is one of them
few_below : (bound : ℕ) (top : Forest) → AreUpTo bound (node 0 Root top none) → ((n : ℕ) → uses n (node 0 Root top none) ≤ 1) → count_of (unnumbered top) ≤ bound
few_below bound top all once =
    let most = together-once bound (node 0 Root top none) once in
    let own = together-own bound 0 (omega arith) in
    let sum = together-node bound 0 Root top none in
    let below = count_unnumbered bound top (λ n used. all n (omega (arith, used))) in
    omega (arith, most, own, sum, below)

pub whole_document : (names : List NameParts) (source : Source) → IsProper names source → IsWhole (document_of source)
whole_document names source p =
    let few = few_below source.made p.top (λ n used. p.numbered n (subst (λ t. 0 < uses n t) (sym p.rooted) used)) (λ n. subst (λ t. uses n t ≤ 1) p.rooted (p.distinct n)) in
    let most = p.few in
    let deep = depth_unnumbered p.top in
    let depth = ap depth_of p.rooted in
    let shallow = p.shallow in
    let whole : IsWhole (unnumbered p.top) = record {
      top = top_unnumbered p.top p.outermost;
      texts = texts_unnumbered names p.top p.nodes;
      few = omega (arith, few, most);
      shallow = omega (arith, deep, depth, shallow);
    } in
    subst (λ t. IsWhole (below_document t)) (sym p.rooted) whole
