-- The machine over bytes and the tokens that they spell.
use Rattle.std.proofs.Common.{◌≡◌, ◌⊎◌, ◌==◌, ℕ, Bool, true, false, cond, List, [], ◌∷◌, ◌++◌, Option, Some, None, sym, refl, ap, ◌∙◌, subst, inl, inr, append_assoc, codes}
use Rattle.std.specs.List.{AllByRecursion}
use Rattle.std.specs.Option.{option_map}
use Rattle.std.proofs.lemmas.Bool.{eqb-true}
use Rattle.std.proofs.lemmas.List.{append-nil}
use Rattle.content_model.specs.declared.particle.Separator.TheVariants.{Sequence, Choice}
use Rattle.content_model.specs.declared.particle.Occurrence.TheVariants.{Optional, ZeroOrMore, OneOrMore}
use Rattle.content_model.specs.declared.reader.NamePart.{NamePart}
use Rattle.content_model.specs.declared.reader.NamePart.TheVariants.{First, Colon, Local}
use Rattle.content_model.specs.Particle.{Content}
use Rattle.serna_kinds.specs.Qualified.{begins_name, continues_name}
use Rattle.content_model.specs.Grammar.{Token, Open, Close, Between, Times, Text, Nothing, Anything, Word, IsLocalName, IsName, spelling, IsToken, AreSpaces, Spells, IsText}
use Rattle.content_model.specs.Machine.{Frame, State, Want, Behind, Mixing, MixedName, MixedEnd, MixedDone, NoContent, AnyContent, Slot, InGroup, InMixed, slot_state, filled, Reading, At, Fixed, InName, mark_at, after_mark, begin_keyword, begin_text, begin_word, begin_token, begin, next_part, end_name, in_name, fixed, in_fixed, step, run, start, finish}
use Rattle.content_model.proofs.Completeness.{after}
use Rattle.content_model.proofs.Soundness.{Has, has_more, has_start, has_finished}

-- bytes read in two parts
pub run-append : (o : Option Reading) (a b : List ℕ) → run o (a ++ b) ≡ run (run o a) b
run-append None [] b = refl
run-append None (x ∷ a) b = refl
run-append (Some r) [] b = refl
run-append (Some r) (x ∷ a) b = run-append (step r x) a b

-- the model at the end, if the text is one
abbrev pub ending : Option Reading → Option (Content (List ℕ))
ending None = None
ending (Some r) = finish r

-- Tokens that are spelled

spells_space : (ts : List Token) (text : List ℕ) → Spells ts text → Spells ts (text ++ 32 ∷ [])
spells_space [] text spaces = more text spaces
  where
    more : (bs : List ℕ) → AreSpaces bs → AreSpaces (bs ++ 32 ∷ [])
    more [] all = (refl, tt)
    more (b ∷ bs) all = (all.0, more bs all.1)
spells_space (t ∷ ts) text (gap, rest, spaces, is, e, spelled) = (
  gap,
  rest ++ 32 ∷ [],
  spaces,
  is,
  ap (λ l. l ++ 32 ∷ []) e ∙ append_assoc gap (spelling t ++ rest) (32 ∷ []) ∙ ap (λ l. gap ++ l) (append_assoc (spelling t) rest (32 ∷ [])),
  spells_space ts rest spelled,
)

spells_more : (ts : List Token) (text : List ℕ) (t : Token) → Spells ts text → IsToken t → Spells (ts ++ t ∷ []) (text ++ spelling t)
spells_more [] text t spaces is = (text, [], spaces, is, ap (λ l. text ++ l) (sym (append-nil (spelling t))), tt)
spells_more (k ∷ ts) text t (gap, rest, spaces, is_k, e, spelled) is = (
  gap,
  rest ++ spelling t,
  spaces,
  is_k,
  ap (λ l. l ++ spelling t) e ∙ append_assoc gap (spelling k ++ rest) (spelling t) ∙ ap (λ l. gap ++ l) (append_assoc (spelling k) rest (spelling t)),
  spells_more ts rest t spelled is,
)

-- Names, byte by byte

-- what a name has been so far
abbrev pub NameSoFar : NamePart → List ℕ → Type 0
NameSoFar First name = IsLocalName name
NameSoFar Colon name = (prefix : List ℕ) × IsLocalName prefix × (name ≡ prefix ++ codes ":")
NameSoFar Local name = (prefix : List ℕ) × (local : List ℕ) × IsLocalName prefix × IsLocalName local × (name ≡ prefix ++ (codes ":" ++ local))

chosen : {A : Type 0} (c : Bool) (x y z : A) → cond c x y ≡ z → ((c ≡ true) × (x ≡ z)) ⊎ ((c ≡ false) × (y ≡ z))
chosen true x y z e = inl (refl, e)
chosen false x y z e = inr (refl, e)

all_more : (bs : List ℕ) (b : ℕ) → AllByRecursion (λ c. continues_name c ≡ true) bs → continues_name b ≡ true → AllByRecursion (λ c. continues_name c ≡ true) (bs ++ b ∷ [])
all_more [] b all is = (is, tt)
all_more (c ∷ cs) b all is = (all.0, all_more cs b all.1 is)

local_more : (name : List ℕ) (b : ℕ) → IsLocalName name → continues_name b ≡ true → IsLocalName (name ++ b ∷ [])
local_more [] b is more = absurd is
local_more (c ∷ cs) b is more = (is.0, all_more cs b is.1 more)

name_more : (part next : NamePart) (name : List ℕ) (b : ℕ) → NameSoFar part name → next_part part b ≡ Some next → NameSoFar next (name ++ b ∷ [])
name_more First next name b is e =
    elim (chosen (continues_name b) (Some First) (cond (b == 58) (Some Colon) None) (Some next) e) [
      | inl h ↦ (let same : First ≡ next = cc (h.1) in subst (λ p. NameSoFar p (name ++ b ∷ [])) same (local_more name b is h.0))
      | inr h ↦ elim (chosen (b == 58) (Some Colon) None (Some next) h.1) [
        | inl k ↦ (let same : Colon ≡ next = cc (k.1) in
            subst (λ p. NameSoFar p (name ++ b ∷ [])) same (name, is, ap (λ x. name ++ x ∷ []) (eqb-true b 58 k.0)))
        | inr k ↦ (let no : None ≡ Some next = k.1 in cc)
      ]
    ]
name_more Colon next name b (prefix, is, e) f =
    elim (chosen (begins_name b) (Some Local) None (Some next) f) [
      | inl h ↦ (let same : Local ≡ next = cc (h.1) in
          subst (λ p. NameSoFar p (name ++ b ∷ [])) same (prefix, b ∷ [], is, (h.0, tt), ap (λ l. l ++ b ∷ []) e ∙ append_assoc prefix (codes ":") (b ∷ [])))
      | inr h ↦ (let no : None ≡ Some next = h.1 in cc)
    ]
name_more Local next name b (prefix, local, is, is_local, e) f =
    elim (chosen (continues_name b) (Some Local) None (Some next) f) [
      | inl h ↦ (let same : Local ≡ next = cc (h.1) in
          subst (λ p. NameSoFar p (name ++ b ∷ [])) same (
            prefix,
            local ++ b ∷ [],
            is,
            local_more local b is_local h.0,
            ap (λ l. l ++ b ∷ []) e ∙ append_assoc prefix (codes ":" ++ local) (b ∷ []),
          ))
      | inr h ↦ (let no : None ≡ Some next = h.1 in cc)
    ]

-- What the bytes so far are, by what the reader has of them

abbrev pub HasBytes : Reading → List ℕ → Type 0
HasBytes (At s) text = (tokens : List Token) × Spells tokens text × Has s tokens
HasBytes (Fixed [] s) text = ⊥
HasBytes (Fixed (c ∷ rest) s) text = (tokens : List Token) × (before : List ℕ) × (done : List ℕ) × (t : Token)
    × Spells tokens before × IsToken t × (text ≡ before ++ done) × (done ++ c ∷ rest ≡ spelling t) × Has s (tokens ++ t ∷ [])
HasBytes (InName part name slot) text = (tokens : List Token) × (before : List ℕ) × Spells tokens before × (text ≡ before ++ name) × NameSoFar part name × Has (slot_state slot) tokens

-- the token of one byte
abbrev IsMark : ℕ → Token → Type 0
IsMark b t = (spelling t ≡ b ∷ []) × IsToken t × ((s : State) → after_mark s t ≡ after s t)

mark_found : (b n : ℕ) (k t : Token) → (b == n) ≡ true → Some k ≡ Some t → IsMark n k → IsMark b t
mark_found b n k t e f is =
    let same : k ≡ t = cc in
    subst (IsMark b) same (subst (λ x. IsMark x k) (sym (eqb-true b n e)) is)

mark_is : (b : ℕ) (t : Token) → mark_at b ≡ Some t → IsMark b t
mark_is b t e0 =
    elim (chosen (b == 40) _ _ _ e0) [
      | inl h ↦ mark_found b 40 Open t h.0 h.1 (refl, tt, λ s. refl)
      | inr h0 ↦
          elim (chosen (b == 41) _ _ _ h0.1) [
            | inl h ↦ mark_found b 41 Close t h.0 h.1 (refl, tt, λ s. refl)
            | inr h1 ↦
                elim (chosen (b == 44) _ _ _ h1.1) [
                  | inl h ↦ mark_found b 44 (Between Sequence) t h.0 h.1 (refl, tt, λ s. refl)
                  | inr h2 ↦
                      elim (chosen (b == 124) _ _ _ h2.1) [
                        | inl h ↦ mark_found b 124 (Between Choice) t h.0 h.1 (refl, tt, λ s. refl)
                        | inr h3 ↦
                            elim (chosen (b == 63) _ _ _ h3.1) [
                              | inl h ↦ mark_found b 63 (Times Optional) t h.0 h.1 (refl, tt, λ s. refl)
                              | inr h4 ↦
                                  elim (chosen (b == 42) _ _ _ h4.1) [
                                    | inl h ↦ mark_found b 42 (Times ZeroOrMore) t h.0 h.1 (refl, tt, λ s. refl)
                                    | inr h5 ↦
                                        elim (chosen (b == 43) _ _ _ h5.1) [
                                          | inl h ↦ mark_found b 43 (Times OneOrMore) t h.0 h.1 (refl, tt, λ s. refl)
                                          | inr h6 ↦
                                              (let no : None ≡ Some t = h6.1 in cc)
                                        ]
                                  ]
                            ]
                      ]
                ]
          ]
    ]

-- a byte has led to this reading, if to any
abbrev Led : Option Reading → List ℕ → Type 0
Led None text = Unit {0}
Led (Some r) text = HasBytes r text

led_mark : (s : State) (text : List ℕ) (b : ℕ) (t : Token) → HasBytes (At s) text → IsMark b t → Led (option_map At (after_mark s t)) (text ++ b ∷ [])
led_mark s text b t (tokens, spelled, has) (e, is, same) = go (after_mark s t) refl
  where
    go : (o : Option State) → after_mark s t ≡ o → Led (option_map At o) (text ++ b ∷ [])
    go None f = tt
    go (Some next) f =
        (tokens ++ t ∷ [], subst (λ l. Spells (tokens ++ t ∷ []) (text ++ l)) e (spells_more tokens text t spelled is), has_more s tokens t next has (sym (same s) ∙ f))

led_keyword : (text : List ℕ) (b : ℕ) → HasBytes (At (Want [])) text → Led (begin_keyword b) (text ++ b ∷ [])
led_keyword text b (tokens, spelled, has) =
    elim (chosen (b == 69) (Some (Fixed (codes "MPTY") NoContent)) (cond (b == 65) (Some (Fixed (codes "NY") AnyContent)) None) (begin_keyword b) refl) [
      | inl h ↦ subst (λ o. Led o (text ++ b ∷ [])) h.1
          (tokens, text, b ∷ [], Nothing, spelled, tt, refl, ap (λ x. x ∷ codes "MPTY") (eqb-true b 69 h.0), has_more (Want []) tokens Nothing NoContent has refl)
      | inr h ↦ elim (chosen (b == 65) (Some (Fixed (codes "NY") AnyContent)) None (begin_keyword b) h.1) [
        | inl k ↦ subst (λ o. Led o (text ++ b ∷ [])) k.1
            (tokens, text, b ∷ [], Anything, spelled, tt, refl, ap (λ x. x ∷ codes "NY") (eqb-true b 65 k.0), has_more (Want []) tokens Anything AnyContent has refl)
        | inr k ↦ subst (λ o. Led o (text ++ b ∷ [])) k.1 tt
      ]
    ]

led_text : (f : Frame) (fs : List Frame) (text : List ℕ) (b : ℕ) → HasBytes (At (Want (f ∷ fs))) text → Led (begin_text f fs b) (text ++ b ∷ [])
led_text None [] text b (tokens, spelled, has) =
    elim (chosen (b == 35) (Some (Fixed (codes "PCDATA") (Mixing []))) None (begin_text None [] b) refl) [
      | inl h ↦ subst (λ o. Led o (text ++ b ∷ [])) h.1
          (tokens, text, b ∷ [], Text, spelled, tt, refl, ap (λ x. x ∷ codes "PCDATA") (eqb-true b 35 h.0), has_more (Want (None ∷ [])) tokens Text (Mixing []) has refl)
      | inr h ↦ subst (λ o. Led o (text ++ b ∷ [])) h.1 tt
    ]
led_text None (f ∷ fs) text b has = tt
led_text (Some group) fs text b has = tt

led_name : (slot : Slot) (text : List ℕ) (b : ℕ) (other : Option Reading) → HasBytes (At (slot_state slot)) text → Led other (text ++ b ∷ [])
    → Led (cond (begins_name b) (Some (InName First (b ∷ []) slot)) other) (text ++ b ∷ [])
led_name slot text b other (tokens, spelled, has) led = go (begins_name b) refl
  where
    go : (c : Bool) → begins_name b ≡ c → Led (cond c (Some (InName First (b ∷ []) slot)) other) (text ++ b ∷ [])
    go true e = (tokens, text, spelled, refl, (e, tt), has)
    go false e = led

led_word : (s : State) (text : List ℕ) (b : ℕ) → HasBytes (At s) text → Led (begin_word s b) (text ++ b ∷ [])
led_word (Want []) text b has = led_keyword text b has
led_word (Want (f ∷ fs)) text b has = led_name (InGroup f fs) text b (begin_text f fs b) has (led_text f fs text b has)
led_word (MixedName names) text b has = led_name (InMixed names) text b None has tt
led_word (Behind is_signed fs p) text b has = tt
led_word (Mixing names) text b has = tt
led_word (MixedEnd names) text b has = tt
led_word (MixedDone names) text b has = tt
led_word NoContent text b has = tt
led_word AnyContent text b has = tt

led_begin : (s : State) (text : List ℕ) (b : ℕ) → HasBytes (At s) text → Led (begin s b) (text ++ b ∷ [])
led_begin s text b has = go (b == 32) refl
  where
    token : (o : Option Token) → mark_at b ≡ o → Led (begin_token s b o) (text ++ b ∷ [])
    token None e = led_word s text b has
    token (Some t) e = led_mark s text b t has (mark_is b t e)

    go : (c : Bool) → (b == 32) ≡ c → Led (cond c (Some (At s)) (begin_token s b (mark_at b))) (text ++ b ∷ [])
    go true e = (has.0, subst (λ x. Spells has.0 (text ++ x ∷ [])) (sym (eqb-true b 32 e)) (spells_space has.0 text has.1), has.2)
    go false e = token (mark_at b) refl

led_fixed : (c : ℕ) (rest : List ℕ) (s : State) (text : List ℕ) (b : ℕ) → HasBytes (Fixed (c ∷ rest) s) text → Led (in_fixed (c ∷ rest) s b) (text ++ b ∷ [])
led_fixed c rest s text b (tokens, before, done, t, spelled, is, e, f, has) = go (c == b) refl
  where
    last : (l : List ℕ) → done ++ c ∷ l ≡ spelling t → c ≡ b → HasBytes (fixed l s) (text ++ b ∷ [])
    last [] g same = (
      tokens ++ t ∷ [],
      subst (Spells (tokens ++ t ∷ [])) (ap (λ l. before ++ l) (sym g ∙ ap (λ x. done ++ x ∷ []) same) ∙ sym (append_assoc before done (b ∷ [])) ∙ ap (λ l. l ++ b ∷ []) (sym e))
          (spells_more tokens before t spelled is),
      has,
    )
    last (d ∷ ds) g same = (
      tokens,
      before,
      done ++ b ∷ [],
      t,
      spelled,
      is,
      ap (λ l. l ++ b ∷ []) e ∙ append_assoc before done (b ∷ []),
      append_assoc done (b ∷ []) (d ∷ ds) ∙ ap (λ x. done ++ x ∷ (d ∷ ds)) (sym same) ∙ g,
      has,
    )

    go : (v : Bool) → (c == b) ≡ v → Led (cond v (Some (fixed rest s)) None) (text ++ b ∷ [])
    go true g = last rest f (eqb-true c b g)
    go false g = tt

fills : (slot : Slot) (name : List ℕ) → after (slot_state slot) (Word name) ≡ Some (filled slot name)
fills (InGroup f fs) name = refl
fills (InMixed names) name = refl

named : (slot : Slot) (name text : List ℕ) → (part : NamePart) → IsName name → HasBytes (InName part name slot) text → HasBytes (At (filled slot name)) text
named slot name text part is (tokens, before, spelled, e, so_far, has) = (
  tokens ++ Word name ∷ [],
  subst (Spells (tokens ++ Word name ∷ [])) (sym e) (spells_more tokens before (Word name) spelled is),
  has_more (slot_state slot) tokens (Word name) (filled slot name) has (fills slot name),
)

led_end : (part : NamePart) (slot : Slot) (name text : List ℕ) (b : ℕ) → HasBytes (InName part name slot) text → Led (end_name part name slot b) (text ++ b ∷ [])
led_end First slot name text b has = led_begin (filled slot name) text b (named slot name text First (inl has.4) has)
led_end Colon slot name text b has = tt
led_end Local slot name text b has = led_begin (filled slot name) text b (named slot name text Local (inr has.4) has)

led_step : (r : Reading) (text : List ℕ) (b : ℕ) → HasBytes r text → Led (step r b) (text ++ b ∷ [])
led_step (At s) text b has = led_begin s text b has
led_step (Fixed [] s) text b has = absurd has
led_step (Fixed (c ∷ rest) s) text b has = led_fixed c rest s text b has
led_step (InName part name slot) text b has = go (next_part part b) refl
  where
    go : (o : Option NamePart) → next_part part b ≡ o → Led (in_name part name slot b o) (text ++ b ∷ [])
    go None e = led_end part slot name text b has
    go (Some next) e = (has.0, has.1, has.2, ap (λ l. l ++ b ∷ []) has.3 ∙ append_assoc has.1 name (b ∷ []), name_more part next name b has.4 e, has.5)

-- the bytes that led to a reading are what it has
pub has_run : (o : Option Reading) (before text : List ℕ) (r : Reading) → Led o before → run o text ≡ Some r → HasBytes r (before ++ text)
has_run None before [] r has e = cc
has_run None before (b ∷ bs) r has e = cc
has_run (Some q) before [] r has e =
    let same : q ≡ r = cc in subst (λ l. HasBytes r l) (sym (append-nil before)) (subst (λ x. HasBytes x before) same has)
has_run (Some q) before (b ∷ bs) r has e =
    subst (HasBytes r) (append_assoc before (b ∷ []) bs) (has_run (step q b) (before ++ b ∷ []) bs r (led_step q before b has) e)

pub has_begun : HasBytes start []
has_begun = ([], tt, has_start)

-- where the text may end, it is one of the model
pub is_text : (text : List ℕ) (r : Reading) (content : Content (List ℕ)) → run (Some start) text ≡ Some r → finish r ≡ Some content → IsText text content
unfolding IsText
is_text text r content e f = go r (has_run (Some start) [] text r has_begun e) f
  where
    go : (x : Reading) → HasBytes x text → finish x ≡ Some content → IsText text content
    go (At s) (tokens, spelled, has) g = (tokens, spelled, has_finished s tokens content has g)
    go (Fixed rest s) has g = cc
    go (InName part name slot) has g = cc
