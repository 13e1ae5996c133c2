-- The machine reads each text of the grammar.
use Rattle.std.proofs.Common.{◌≡◌, ◌<◌, ◌≤◌, ◌+◌, ◌⊎◌, ℕ, zero, suc, Bool, true, false, cond, List, [], ◌∷◌, ◌++◌, Option, Some, None, sym, refl, ap, ◌∙◌, inl, inr, append_assoc, arith, length, nat_lt}
use Rattle.std.specs.List.{AllByRecursion}
use Rattle.std.proofs.lemmas.Bool.Decides.{nat_tests}
use Rattle.std.proofs.lemmas.List.{append-nil}
use Rattle.content_model.specs.declared.particle.Separator.{Separator}
use Rattle.content_model.specs.declared.particle.Separator.TheVariants.{Sequence, Choice}
use Rattle.content_model.specs.declared.particle.Occurrence.TheVariants.{ZeroOrMore}
use Rattle.content_model.specs.Particle.{Particle, Content, Name, Empty, Any, Mixed, Group}
use Rattle.content_model.specs.Grammar.{Token, Open, Close, Between, Times, Text, Nothing, Anything, Word, Part, behind, joined, MaySign, IsWord, IsGroup, alternatives, IsModel}
use Rattle.content_model.specs.Machine.{Frame, State, Want, Behind, Mixing, MixedName, MixedEnd, NoContent, AnyContent, gather, is_same, may_follow, after_open, after_close, after_between, after_times, finished}

-- where a token leads that is no mark
abbrev pub after_text : State → Option State
after_text (Want (None ∷ [])) = Some (Mixing [])
after_text _ = None

abbrev pub after_word : List ℕ → State → Option State
after_word name (Want (f ∷ fs)) = Some (Behind false (f ∷ fs) (Name name))
after_word name (MixedName names) = Some (Mixing (names ++ name ∷ []))
after_word name _ = None

abbrev pub after_keyword : State → State → Option State
after_keyword to (Want []) = Some to
after_keyword to _ = None

-- where a token leads
abbrev pub after : State → Token → Option State
after s Open = after_open s
after s Close = after_close s
after s (Between separator) = after_between separator s
after s (Times occurrence) = after_times occurrence s
after s Text = after_text s
after s Nothing = after_keyword NoContent s
after s Anything = after_keyword AnyContent s
after s (Word name) = after_word name s

-- the model that tokens lead to
abbrev pub outcome : Option State → List Token → Option (Content (List ℕ))
outcome None ts = None
outcome (Some s) [] = finished s
outcome (Some s) (t ∷ ts) = outcome (after s t) ts

pub is_same-refl : (s : Separator) → is_same s s ≡ true
is_same-refl Sequence = refl
is_same-refl Choice = refl

-- a part is read where it is wanted, and then the groups that are open are the same
abbrev pub ReadsIn : List Frame → (Part → Type 0) → Type 0
ReadsIn fs Is = (part : Part) → Is part → (rest : List Token) → outcome (Some (Want fs)) (part.tokens ++ rest) ≡ outcome (Some (Behind false fs part.particle)) rest

reads_signed : (fs : List Frame) (Is : Part → Type 0) → ReadsIn fs Is → (part : Part) → MaySign Is part → (rest : List Token)
    → (is_signed : Bool) × (outcome (Some (Want fs)) (part.tokens ++ rest) ≡ outcome (Some (Behind is_signed fs part.particle)) rest)
reads_signed fs Is reads part (inl is) rest = (false, reads part is rest)
reads_signed fs Is reads part (inr (o, plain, is, e)) rest = (
  true,
  ap (λ (x : Part). outcome (Some (Want fs)) (x.tokens ++ rest)) e
      ∙ ap (outcome (Some (Want fs))) (append_assoc plain.tokens (Times o ∷ []) rest)
      ∙ reads plain is (Times o ∷ rest)
      ∙ ap (λ (x : Part). outcome (Some (Behind true fs x.particle)) rest) (sym e),
)

reads_behind : (fs : List Frame) (Is : Part → Type 0) → ((f : Frame) → ReadsIn (f ∷ fs) Is) → (s : Separator) (others : List Part) → AllByRecursion (MaySign Is) others
    → (f : Frame) (p : Particle (List ℕ)) (is_signed : Bool) → may_follow f s ≡ true → (rest : List Token)
    → outcome (Some (Behind is_signed (f ∷ fs) p)) (behind s others ++ Close ∷ rest) ≡ outcome (Some (Behind false fs (joined s (gather f p) others))) rest
reads_behind fs Is reads s [] all f p is_signed may rest = refl
reads_behind fs Is reads s (q ∷ qs) all f p is_signed may rest =
    let group : Frame = Some (s, gather f p) in
    let next = reads_signed (group ∷ fs) Is (reads group) q all.0 (behind s qs ++ Close ∷ rest) in
    ap (λ b. outcome (cond b (Some (Want (group ∷ fs))) None) ((q.tokens ++ behind s qs) ++ Close ∷ rest)) may
    ∙ ap (outcome (Some (Want (group ∷ fs)))) (append_assoc q.tokens (behind s qs) (Close ∷ rest))
    ∙ next.1
    ∙ reads_behind fs Is reads s qs all.1 group q.particle next.0 (is_same-refl s) rest

room_is_left : (n : ℕ) → n < 64 → nat_lt n 64 ≡ true
room_is_left n h = grind (arith, nat_tests)

pub reads_group : (depth : ℕ) (part : Part) → IsGroup depth part → (fs : List Frame) → depth + length fs ≤ 64 → (rest : List Token)
    → outcome (Some (Want fs)) (part.tokens ++ rest) ≡ outcome (Some (Behind false fs part.particle)) rest
unfolding IsGroup
reads_group zero part is fs room rest = absurd is
reads_group (suc depth) part (s, first, others, first_is, others_are, e) fs room rest =
    let reads : (f : Frame) → ReadsIn (f ∷ fs) (λ p. IsWord p ⊎ IsGroup depth p) = λ f p is more. elim is [
      | inl w ↦ ap (λ (x : Part). outcome (Some (Want (f ∷ fs))) (x.tokens ++ more)) w.1 ∙ ap (λ (x : Part). outcome (Some (Behind false (f ∷ fs) x.particle)) more) (sym w.1)
      | inr g ↦ reads_group depth p g (f ∷ fs) (omega arith) more
    ] in
    let one = reads_signed (None ∷ fs) (λ p. IsWord p ⊎ IsGroup depth p) (reads None) first first_is (behind s others ++ Close ∷ rest) in
    let few : length fs < 64 = omega arith in
    ap (λ (x : Part). outcome (Some (Want fs)) (x.tokens ++ rest)) e
    ∙ ap (λ b. outcome (cond b (Some (Want (None ∷ fs))) None) ((first.tokens ++ (behind s others ++ Close ∷ [])) ++ rest)) (room_is_left (length fs) few)
    ∙ ap (outcome (Some (Want (None ∷ fs)))) (append_assoc first.tokens (behind s others ++ Close ∷ []) rest ∙ ap (λ l. first.tokens ++ l) (append_assoc (behind s others) (Close ∷ []) rest))
    ∙ one.1
    ∙ reads_behind fs (λ p. IsWord p ⊎ IsGroup depth p) reads s others others_are None first.particle one.0 refl rest
    ∙ ap (λ (x : Part). outcome (Some (Behind false fs x.particle)) rest) (sym e)

reads_alternatives : (names done : List (List ℕ)) (rest : List Token)
    → outcome (Some (Mixing done)) (alternatives names ++ Close ∷ rest) ≡ outcome (Some (MixedEnd (done ++ names))) rest
reads_alternatives [] done rest = ap (λ l. outcome (Some (MixedEnd l)) rest) (sym (append-nil done))
reads_alternatives (name ∷ names) done rest =
    reads_alternatives names (done ++ name ∷ []) rest ∙ ap (λ l. outcome (Some (MixedEnd l)) rest) (append_assoc done (name ∷ []) names)

-- the tokens of a model lead to it
pub reads_model : (content : Content (List ℕ)) (tokens : List Token) → IsModel content tokens → outcome (Some (Want [])) tokens ≡ Some content
reads_model Empty tokens e = ap (outcome (Some (Want []))) e
reads_model Any tokens e = ap (outcome (Some (Want []))) e
reads_model (Mixed names) tokens (inl e) = ap (outcome (Some (Want []))) e ∙ reads_alternatives names [] (Times ZeroOrMore ∷ [])
reads_model (Mixed names) tokens (inr (none, e)) = ap (outcome (Some (Want []))) e ∙ ap (λ l. Some (Mixed l)) (sym none)
reads_model (Group p) tokens is =
    let part : Part = record { tokens = tokens; particle = p } in
    let groups : ReadsIn [] (IsGroup 64) = λ g is rest. reads_group 64 g is [] (omega arith) rest in
    let read = reads_signed [] (IsGroup 64) groups part is [] in
    ap (outcome (Some (Want []))) (sym (append-nil tokens)) ∙ read.1
