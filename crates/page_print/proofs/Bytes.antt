-- Bytes that are appended piece by piece.
use Rattle.std.proofs.Common.{◌≡◌, ℕ, ◌+◌, List, [], ◌++◌, take, drop, Option, Some, None, refl, sym, ap, ◌∙◌, subst, append_assoc}
use Rattle.std.proofs.Math.Seq.{take-add}
use Rattle.std.proofs.lemmas.List.{append-nil, take-append-drop}
use Rattle.serna_outside.specs.Outside.{Appends}
use Rattle.page_print.specs.Outside.{AppendsFront}

pub appends_none : (held : Option (List ℕ)) → Appends held held []
appends_none None = tt
appends_none (Some bytes) = sym (append-nil bytes)

pub appends_then : (a b c : Option (List ℕ)) (xs ys : List ℕ) → Appends a b xs → Appends b c ys → Appends a c (xs ++ ys)
appends_then None None None xs ys h i = tt
appends_then None None (Some z) xs ys h i = i
appends_then None (Some y) c xs ys h i = absurd h
appends_then (Some x) None c xs ys h i = absurd h
appends_then (Some x) (Some y) None xs ys h i = i
appends_then (Some x) (Some y) (Some z) xs ys h i = i ∙ ap (λ b. b ++ ys) h ∙ append_assoc x xs ys

-- more of a piece is written, P being what is offered of it
pub written_more : (a b c : Option (List ℕ)) (done n : ℕ) (piece offered : List ℕ) → offered ≡ drop done piece → Appends a b (take done piece) → Appends b c (take n offered) → Appends a c (take (done + n) piece)
written_more a b c done n piece offered is h i =
    subst (Appends a c) (ap (λ q. take done piece ++ take n q) is ∙ sym (take-add done n piece)) (appends_then a b c (take done piece) (take n offered) h i)

-- nothing, all, and a first part are fronts
pub front_none : (held : Option (List ℕ)) (bytes : List ℕ) → AppendsFront held held bytes
front_none held bytes = ([], bytes, refl, appends_none held)

pub front_all : (a b : Option (List ℕ)) (bytes : List ℕ) → Appends a b bytes → AppendsFront a b bytes
front_all a b bytes h = (bytes, [], sym (append-nil bytes), h)

pub front_part : (a b : Option (List ℕ)) (n : ℕ) (bytes : List ℕ) → Appends a b (take n bytes) → AppendsFront a b bytes
front_part a b n bytes h = (take n bytes, drop n bytes, sym (take-append-drop n bytes), h)

-- a front behind what was written whole
pub front_then : (a b c : Option (List ℕ)) (xs ys more bytes : List ℕ) → bytes ≡ xs ++ (ys ++ more) → Appends a b xs → AppendsFront b c ys → AppendsFront a c bytes
front_then a b c xs ys more bytes is h f = (
  xs ++ f.0,
  f.1 ++ more,
  is ∙ ap (λ zs. xs ++ (zs ++ more)) f.2 ∙ ap (λ zs. xs ++ zs) (append_assoc f.0 f.1 more) ∙ sym (append_assoc xs f.0 (f.1 ++ more)),
  appends_then a b c xs f.0 h f.3,
)
