-- Fragments whose holes are numbered in order, with what they ask for.
use Rattle.std.proofs.Common.{◌≡◌, ℕ, ◌+◌, List, [], ◌∷◌, ◌++◌, length, Result, Ok, Err, OnOk, OnErr, refl, sym, ap, ◌∙◌, subst, arith}
use Rattle.std.proofs.lemmas.List.{append-nil}
use Rattle.std.proofs.lemmas.Result.{on_ok_weaker}
use Rattle.result_origin.specs.Parts.{Mark, ResultPart, Says, Hole, holes, numbered}
use Rattle.instance_store.specs.declared.request.Asked.{Asked}
use Rattle.template_run.specs.Results.{asking, AreAsked}

pub holes-append : {H : Type 0} (xs ys : List (ResultPart H)) → holes (xs ++ ys) ≡ holes xs ++ holes ys
holes-append [] ys = refl
holes-append (Says m ∷ xs) ys = holes-append xs ys
holes-append (Hole h ∷ xs) ys = ap (λ hs. h ∷ hs) (holes-append xs ys)

pub numbered-append : {H : Type 0} (k : ℕ) (xs ys : List (ResultPart H)) → numbered k (xs ++ ys) ≡ numbered k xs ++ numbered (k + length (holes xs)) ys
numbered-append k [] ys = ap (λ n. numbered n ys) (omega arith)
numbered-append k (Says m ∷ xs) ys = ap (λ ps. Says m ∷ ps) (numbered-append k xs ys)
numbered-append k (Hole h ∷ xs) ys =
    ap (λ ps. Hole k ∷ ps) (numbered-append (k + 1) xs ys ∙ ap (λ n. numbered (k + 1) xs ++ numbered n ys) (omega arith))

-- as many holes as requests
abbrev Matched : List (ResultPart ℕ) → List Asked → Type 0
Matched [] [] = Unit {0}
Matched [] (a ∷ asked) = ⊥
Matched (Says m ∷ parts) asked = Matched parts asked
Matched (Hole k ∷ parts) [] = ⊥
Matched (Hole k ∷ parts) (a ∷ asked) = Matched parts asked

abbrev tail_of : List (ResultPart ℕ) → List (ResultPart ℕ)
tail_of [] = []
tail_of (p ∷ ps) = ps

abbrev rest_of : List Asked → List Asked
rest_of [] = []
rest_of (a ∷ asked) = asked

matched : (k : ℕ) (parts : List (ResultPart ℕ)) (asked : List Asked) → parts ≡ numbered k (asking parts asked) → asked ≡ holes (asking parts asked) → Matched parts asked
matched k [] [] n r = tt
matched k [] (a ∷ asked) n r = cc
matched k (Says m ∷ parts) asked n r = matched k parts asked (ap tail_of n) r
matched k (Hole j ∷ parts) [] n r = cc
matched k (Hole j ∷ parts) (a ∷ asked) n r = matched (k + 1) parts asked (ap tail_of n) (ap rest_of r)

asking-append : (parts more : List (ResultPart ℕ)) (asked others : List Asked) → Matched parts asked → asking (parts ++ more) (asked ++ others) ≡ asking parts asked ++ asking more others
asking-append [] more [] others m = refl
asking-append [] more (a ∷ asked) others m = absurd m
asking-append (Says mark ∷ parts) more asked others m = ap (λ ps. Says mark ∷ ps) (asking-append parts more asked others m)
asking-append (Hole k ∷ parts) more [] others m = absurd m
asking-append (Hole k ∷ parts) more (a ∷ asked) others m = ap (λ ps. Hole a ∷ ps) (asking-append parts more asked others m)

-- what was asked for, with something more said or asked
pub record Longer (parts : List (ResultPart ℕ)) (asked : List Asked) (old more : List (ResultPart Asked)) : Type 0 where
  pub asks : AreAsked parts asked
  pub is : asking parts asked ≡ old ++ more

longer : (parts more : List (ResultPart ℕ)) (asked others : List Asked) → AreAsked parts asked → more ≡ numbered (length asked) (asking more others) → others ≡ holes (asking more others) →
    Longer (parts ++ more) (asked ++ others) (asking parts asked) (asking more others)
longer parts more asked others are numbers requests =
    let m = matched 0 parts asked are.numbers are.requests in
    let joined = asking-append parts more asked others m in
    let none : 0 + length (holes (asking parts asked)) ≡ length (holes (asking parts asked)) = omega arith in
    record {
      asks = record {
        numbers =
            sym (
            ap (numbered 0) joined ∙ numbered-append 0 (asking parts asked) (asking more others)
            ∙ ap (λ n. numbered 0 (asking parts asked) ++ numbered n (asking more others)) none
            ∙ ap (λ ps. ps ++ numbered (length (holes (asking parts asked))) (asking more others)) (sym are.numbers)
            ∙ ap (λ (rs : List Asked). parts ++ numbered (length rs) (asking more others)) (sym are.requests)
            ∙ ap (λ ps. parts ++ ps) (sym numbers));
        requests =
            sym (
            ap holes joined ∙ holes-append (asking parts asked) (asking more others) ∙ ap (λ rs. rs ++ holes (asking more others)) (sym are.requests)
            ∙ ap (λ rs. asked ++ rs) (sym requests));
      };
      is = joined;
    }

-- a mark more
pub longer_said : (parts new : List (ResultPart ℕ)) (asked : List Asked) (m : Mark) → AreAsked parts asked → new ≡ parts ++ Says m ∷ [] → Longer new asked (asking parts asked) (Says m ∷ [])
longer_said parts new asked m are e =
    subst (λ ps. Longer ps asked (asking parts asked) (Says m ∷ [])) (sym e)
    (subst (λ rs. Longer (parts ++ Says m ∷ []) rs (asking parts asked) (Says m ∷ [])) (append-nil asked) (longer parts (Says m ∷ []) asked [] are refl refl))

-- a hole more
pub longer_asked : (parts new : List (ResultPart ℕ)) (asked others : List Asked) (a : Asked) → AreAsked parts asked → new ≡ parts ++ Hole (length asked) ∷ [] → others ≡ asked ++ a ∷ [] →
    Longer new others (asking parts asked) (Hole a ∷ [])
longer_asked parts new asked others a are e f =
    subst (λ ps. Longer ps others (asking parts asked) (Hole a ∷ [])) (sym e)
    (subst (λ rs. Longer (parts ++ Hole (length asked) ∷ []) rs (asking parts asked) (Hole a ∷ [])) (sym f)
    (longer parts (Hole (length asked) ∷ []) asked (a ∷ []) are refl refl))

-- the same where it may have failed and left all as it was

pub said_asks : {T E : Type 0} (r : Result T E) (parts new : List (ResultPart ℕ)) (asked : List Asked) (m : Mark) → AreAsked parts asked →
    OnOk r (new ≡ parts ++ Says m ∷ []) → OnErr r (new ≡ parts) → AreAsked new asked
said_asks (Ok x) parts new asked m are ok err = (longer_said parts new asked m are ok).asks
said_asks (Err e) parts new asked m are ok err = subst (λ ps. AreAsked ps asked) (sym err) are

pub said_is : {T E : Type 0} (r : Result T E) (parts new : List (ResultPart ℕ)) (asked : List Asked) (m : Mark) (value : List (ResultPart Asked)) → AreAsked parts asked →
    asking parts asked ≡ value → OnOk r (new ≡ parts ++ Says m ∷ []) → OnOk r (asking new asked ≡ value ++ Says m ∷ [])
said_is r parts new asked m value are view ok =
    on_ok_weaker r (λ e. (longer_said parts new asked m are e).is ∙ ap (λ ps. ps ++ Says m ∷ []) view) ok

-- what cannot be added leaves what was asked for
pub asked_or_not : {T E : Type 0} (r : Result T E) (parts new : List (ResultPart ℕ)) → OnErr r (new ≡ parts) → (e : E) → r ≡ Err e → new ≡ parts
asked_or_not (Ok x) parts new err e is = cc
asked_or_not (Err d) parts new err e is = err
