-- What the machine reads is in the grammar: the tokens so far are those of the state.
use Rattle.std.proofs.Common.{◌≡◌, ◌<◌, ◌+◌, ◌⊎◌, ℕ, zero, suc, Bool, true, false, cond, List, [], ◌∷◌, ◌++◌, Option, Some, None, sym, refl, ap, ◌∙◌, subst, inl, inr, append_assoc, arith, length, nat_lt}
use Rattle.std.specs.List.{AllByRecursion}
use Rattle.std.proofs.lemmas.Bool.Decides.{nat_tests}
use Rattle.std.proofs.lemmas.List.{append-nil}
use Rattle.content_model.specs.declared.particle.Separator.{Separator}
use Rattle.content_model.specs.declared.particle.Separator.TheVariants.{Sequence, Choice}
use Rattle.content_model.specs.declared.particle.Occurrence.TheVariants.{Optional, ZeroOrMore, OneOrMore}
use Rattle.content_model.specs.Particle.{Particle, Content, Name, Joined, Repeated}
use Rattle.content_model.specs.Grammar.{Token, Open, Close, Between, Times, Text, Nothing, Anything, Word, Part, behind, joined, signed, MaySign, IsWord, IsGroup, alternatives, IsModel}
use Rattle.content_model.specs.Machine.{Frame, State, Want, Behind, Mixing, MixedName, MixedEnd, MixedDone, NoContent, AnyContent, gather, is_same, may_follow, after_open, after_close, after_between, after_times, finished}
use Rattle.content_model.proofs.Completeness.{after, after_text, after_word, after_keyword}

-- a part of a group in which this many parentheses may still be opened
abbrev pub Core : ℕ → Part → Type 0
Core depth part = IsWord part ⊎ IsGroup depth part

-- the parts so far of a group that goes on with this separator
pub record Parts (depth : ℕ) (s : Separator) (p : Particle (List ℕ)) (tokens : List Token) : Type 0 where
  pub first : Part
  pub others : List Part
  pub first_is : MaySign (Core depth) first
  pub others_are : AllByRecursion (MaySign (Core depth)) others
  pub tokens_are : tokens ≡ first.tokens ++ behind s others
  pub particle_is : p ≡ joined s first.particle others

-- the tokens of an open group behind its parenthesis
abbrev pub Inside : ℕ → Frame → List Token → Type 0
Inside depth None tokens = tokens ≡ []
Inside depth (Some group) tokens = (parts : List Token) × Parts depth group.0 group.1 parts × (tokens ≡ parts ++ Between group.0 ∷ [])

-- the tokens of the open groups, in which this many parentheses may still be opened
abbrev pub Front : ℕ → List Frame → List Token → Type 0
Front depth [] tokens = (tokens ≡ []) × (depth ≡ 64)
Front depth (f ∷ fs) tokens = (before : List Token) × (inside : List Token) × Front (suc depth) fs before × Inside depth f inside × (tokens ≡ before ++ Open ∷ inside)

-- what a part may be: without an open group it is no name
abbrev pub CoreIn : ℕ → List Frame → Part → Type 0
CoreIn depth [] part = IsGroup depth part
CoreIn depth (f ∷ fs) part = Core depth part

-- a part with its sign, or without
abbrev pub PartIn : Bool → ℕ → List Frame → Part → Type 0
PartIn true depth fs part = MaySign (CoreIn depth fs) part
PartIn false depth fs part = CoreIn depth fs part

pub record Ended (is_signed : Bool) (fs : List Frame) (p : Particle (List ℕ)) (tokens : List Token) : Type 0 where
  pub depth : ℕ
  pub before : List Token
  pub part : Part
  pub front : Front depth fs before
  pub is : PartIn is_signed depth fs part
  pub tokens_are : tokens ≡ before ++ part.tokens
  pub particle_is : p ≡ part.particle

-- the tokens so far, by the state
abbrev pub Has : State → List Token → Type 0
Has (Want fs) tokens = (depth : ℕ) × Front depth fs tokens
Has (Behind is_signed fs p) tokens = Ended is_signed fs p tokens
Has (Mixing names) tokens = tokens ≡ Open ∷ (Text ∷ alternatives names)
Has (MixedName names) tokens = tokens ≡ Open ∷ (Text ∷ (alternatives names ++ Between Choice ∷ []))
Has (MixedEnd names) tokens = tokens ≡ Open ∷ (Text ∷ (alternatives names ++ Close ∷ []))
Has (MixedDone names) tokens = tokens ≡ Open ∷ (Text ∷ (alternatives names ++ Close ∷ Times ZeroOrMore ∷ []))
Has NoContent tokens = tokens ≡ Nothing ∷ []
Has AnyContent tokens = tokens ≡ Anything ∷ []

front_depth : (depth : ℕ) (fs : List Frame) (tokens : List Token) → Front depth fs tokens → depth + length fs ≡ 64
front_depth depth [] tokens front = let e = front.1 in omega arith
front_depth depth (f ∷ fs) tokens (before, inside, front, in_is, e) = let sum = front_depth (suc depth) fs before front in omega arith

-- a part with or without a sign
any_sign : (is_signed : Bool) (depth : ℕ) (fs : List Frame) (part : Part) → PartIn is_signed depth fs part → MaySign (CoreIn depth fs) part
any_sign true depth fs part is = is
any_sign false depth fs part is = inl is

behind-push : (s : Separator) (parts : List Part) (q : Part) → behind s (parts ++ q ∷ []) ≡ behind s parts ++ Between s ∷ q.tokens
behind-push s [] q = ap (λ l. Between s ∷ l) (append-nil q.tokens)
behind-push s (p ∷ ps) q = ap (λ l. Between s ∷ l) (ap (λ l. p.tokens ++ l) (behind-push s ps q) ∙ sym (append_assoc p.tokens (behind s ps) (Between s ∷ q.tokens)))

joined-push : (s : Separator) (p : Particle (List ℕ)) (parts : List Part) (q : Part) → joined s p (parts ++ q ∷ []) ≡ Joined s (joined s p parts) q.particle
joined-push s p [] q = refl
joined-push s p (r ∷ rs) q = joined-push s (Joined s p r.particle) rs q

all-push : (P : Part → Type 0) (parts : List Part) (q : Part) → AllByRecursion P parts → P q → AllByRecursion P (parts ++ q ∷ [])
all-push P [] q all is = (is, tt)
all-push P (p ∷ ps) q all is = (all.0, all-push P ps q all.1 is)

-- one more part of a group
gathered : (depth : ℕ) (f : Frame) (s : Separator) (inside : List Token) (q : Part) → may_follow f s ≡ true → Inside depth f inside → MaySign (Core depth) q
    → Parts depth s (gather f q.particle) (inside ++ q.tokens)
gathered depth None s inside q may is part = record {
  first = q;
  others = [];
  first_is = part;
  others_are = tt;
  tokens_are = ap (λ l. l ++ q.tokens) is ∙ sym (append-nil q.tokens);
  particle_is = refl;
}
gathered depth (Some (t, p)) s inside q may (parts, so_far, e) part =
    let same = is_same_eq t s may in
    subst (λ (x : Separator). Parts depth x (Joined t p q.particle) (inside ++ q.tokens)) same (record {
      first = so_far.first;
      others = so_far.others ++ q ∷ [];
      first_is = so_far.first_is;
      others_are = all-push (MaySign (Core depth)) so_far.others q so_far.others_are part;
      tokens_are = ap (λ l. l ++ q.tokens) e
          ∙ append_assoc parts (Between t ∷ []) q.tokens
          ∙ ap (λ l. l ++ Between t ∷ q.tokens) so_far.tokens_are
          ∙ append_assoc so_far.first.tokens (behind t so_far.others) (Between t ∷ q.tokens)
          ∙ ap (λ l. so_far.first.tokens ++ l) (sym (behind-push t so_far.others q));
      particle_is = ap (λ x. Joined t x q.particle) so_far.particle_is ∙ sym (joined-push t so_far.first.particle so_far.others q);
    })
  where
    is_same_eq : (a b : Separator) → is_same a b ≡ true → a ≡ b
    is_same_eq Sequence Sequence e = refl
    is_same_eq Sequence Choice e = cc
    is_same_eq Choice Sequence e = cc
    is_same_eq Choice Choice e = refl

-- the separator of the parts so far does not matter where there is one part
abbrev separator_of : Frame → Separator
separator_of None = Sequence
separator_of (Some group) = group.0

follows_itself : (f : Frame) → may_follow f (separator_of f) ≡ true
follows_itself None = refl
follows_itself (Some (Sequence, p)) = refl
follows_itself (Some (Choice, p)) = refl

core_in : (depth : ℕ) (fs : List Frame) (part : Part) → IsGroup depth part → CoreIn depth fs part
core_in depth [] part is = is
core_in depth (f ∷ fs) part is = inr is

-- a group with its parts
closed_group : (depth : ℕ) (s : Separator) (p : Particle (List ℕ)) (parts : List Token) → Parts depth s p parts
    → IsGroup (suc depth) (record { tokens = Open ∷ (parts ++ Close ∷ []); particle = p })
unfolding IsGroup
closed_group depth s p parts so_far = (
  s,
  so_far.first,
  so_far.others,
  so_far.first_is,
  so_far.others_are,
  cc (ap (λ l. l ++ Close ∷ []) so_far.tokens_are ∙ append_assoc so_far.first.tokens (behind s so_far.others) (Close ∷ []), so_far.particle_is),
)

grouped : (before inside part : List Token) (last : Token) → (before ++ Open ∷ inside) ++ part ++ last ∷ [] ≡ before ++ (Open ∷ ((inside ++ part) ++ last ∷ []))
grouped before inside part last =
    ap (λ l. l ++ last ∷ []) (append_assoc before (Open ∷ inside) part) ∙ append_assoc before (Open ∷ (inside ++ part)) (last ∷ [])

alternatives-push : (names : List (List ℕ)) (name : List ℕ) → alternatives (names ++ name ∷ []) ≡ alternatives names ++ Between Choice ∷ Word name ∷ []
alternatives-push [] name = refl
alternatives-push (n ∷ ns) name = ap (λ l. Between Choice ∷ (Word n ∷ l)) (alternatives-push ns name)

-- the state is reached by one more token
abbrev Moved : Option State → List Token → Type 0
Moved None tokens = Unit {0}
Moved (Some s) tokens = Has s tokens

has_open : (s : State) (tokens : List Token) → Has s tokens → Moved (after_open s) (tokens ++ Open ∷ [])
has_open (Want fs) tokens (depth, front) = go (nat_lt (length fs) 64) refl
  where
    go : (b : Bool) → nat_lt (length fs) 64 ≡ b → Moved (cond b (Some (Want (None ∷ fs))) None) (tokens ++ Open ∷ [])
    go false e = tt
    go true e = deeper depth (front_depth depth fs tokens front) (grind (arith, nat_tests)) front
      where
        deeper : (d : ℕ) → d + length fs ≡ 64 → length fs < 64 → Front d fs tokens → Has (Want (None ∷ fs)) (tokens ++ Open ∷ [])
        deeper zero sum few front = absurd (omega arith)
        deeper (suc d) sum few front = (d, (tokens, [], front, refl, refl))
has_open (Behind is_signed fs p) tokens has = tt
has_open (Mixing names) tokens has = tt
has_open (MixedName names) tokens has = tt
has_open (MixedEnd names) tokens has = tt
has_open (MixedDone names) tokens has = tt
has_open NoContent tokens has = tt
has_open AnyContent tokens has = tt

has_close : (s : State) (tokens : List Token) → Has s tokens → Moved (after_close s) (tokens ++ Close ∷ [])
has_close (Behind is_signed [] p) tokens has = tt
has_close (Behind is_signed (f ∷ fs) p) tokens has =
    let outer = has.front in
    let s = separator_of f in
    let parts = gathered has.depth f s outer.1 has.part (follows_itself f) outer.3 (any_sign is_signed has.depth (f ∷ fs) has.part has.is) in
    let group = closed_group has.depth s (gather f has.part.particle) (outer.1 ++ has.part.tokens) parts in
    record {
      depth = suc has.depth;
      before = outer.0;
      part = record { tokens = Open ∷ ((outer.1 ++ has.part.tokens) ++ Close ∷ []); particle = gather f has.part.particle };
      front = outer.2;
      is = core_in (suc has.depth) fs _ group;
      tokens_are = ap (λ l. l ++ Close ∷ []) (has.tokens_are ∙ ap (λ l. l ++ has.part.tokens) outer.4) ∙ grouped outer.0 outer.1 has.part.tokens Close;
      particle_is = ap (gather f) has.particle_is;
    }
has_close (Mixing names) tokens has = ap (λ l. l ++ Close ∷ []) has
has_close (Want fs) tokens has = tt
has_close (MixedName names) tokens has = tt
has_close (MixedEnd names) tokens has = tt
has_close (MixedDone names) tokens has = tt
has_close NoContent tokens has = tt
has_close AnyContent tokens has = tt

has_between : (s : Separator) (state : State) (tokens : List Token) → Has state tokens → Moved (after_between s state) (tokens ++ Between s ∷ [])
has_between s (Behind is_signed [] p) tokens has = tt
has_between s (Behind is_signed (f ∷ fs) p) tokens has = go (may_follow f s) refl
  where
    go : (b : Bool) → may_follow f s ≡ b → Moved (cond b (Some (Want (Some (s, gather f p) ∷ fs))) None) (tokens ++ Between s ∷ [])
    go false e = tt
    go true e =
        let outer = has.front in
        let parts = gathered has.depth f s outer.1 has.part e outer.3 (any_sign is_signed has.depth (f ∷ fs) has.part has.is) in (
          has.depth,
          (
            outer.0,
            (outer.1 ++ has.part.tokens) ++ Between s ∷ [],
            outer.2,
            (outer.1 ++ has.part.tokens, subst (λ (x : Particle (List ℕ)). Parts has.depth s (gather f x) (outer.1 ++ has.part.tokens)) (sym has.particle_is) parts, refl),
            ap (λ l. l ++ Between s ∷ []) (has.tokens_are ∙ ap (λ l. l ++ has.part.tokens) outer.4) ∙ grouped outer.0 outer.1 has.part.tokens (Between s),
          ),
        )
has_between Sequence (Mixing names) tokens has = tt
has_between Choice (Mixing names) tokens has = ap (λ l. l ++ Between Choice ∷ []) has
has_between s (Want fs) tokens has = tt
has_between s (MixedName names) tokens has = tt
has_between s (MixedEnd names) tokens has = tt
has_between s (MixedDone names) tokens has = tt
has_between s NoContent tokens has = tt
has_between s AnyContent tokens has = tt

has_times : (o : _) (state : State) (tokens : List Token) → Has state tokens → Moved (after_times o state) (tokens ++ Times o ∷ [])
has_times o (Behind true fs p) tokens has = tt
has_times o (Behind false fs p) tokens has = record {
  depth = has.depth;
  before = has.before;
  part = signed o has.part;
  front = has.front;
  is = inr (o, has.part, has.is, refl);
  tokens_are = ap (λ l. l ++ Times o ∷ []) has.tokens_are ∙ append_assoc has.before has.part.tokens (Times o ∷ []);
  particle_is = ap (Repeated o) has.particle_is;
}
has_times Optional (MixedEnd names) tokens has = tt
has_times ZeroOrMore (MixedEnd names) tokens has =
    ap (λ l. l ++ Times ZeroOrMore ∷ []) has ∙ ap (λ l. Open ∷ (Text ∷ l)) (append_assoc (alternatives names) (Close ∷ []) (Times ZeroOrMore ∷ []))
has_times OneOrMore (MixedEnd names) tokens has = tt
has_times o (Want fs) tokens has = tt
has_times o (Mixing names) tokens has = tt
has_times o (MixedName names) tokens has = tt
has_times o (MixedDone names) tokens has = tt
has_times o NoContent tokens has = tt
has_times o AnyContent tokens has = tt

-- what the tokens have led to, with one more token
pub has_more : (s : State) (tokens : List Token) (t : Token) (next : State) → Has s tokens → after s t ≡ Some next → Has next (tokens ++ t ∷ [])
has_more s tokens t next has e = subst (λ (o : Option State). Moved o (tokens ++ t ∷ [])) e (moved t)
  where
    keyword : (to : State) (k : Token) (x : State) → Has x tokens → (tokens ≡ [] → Has to (tokens ++ k ∷ [])) → Moved (after_keyword to x) (tokens ++ k ∷ [])
    keyword to k (Want []) h f = f h.1.0
    keyword to k (Want (g ∷ gs)) h f = tt
    keyword to k (Behind is_signed fs p) h f = tt
    keyword to k (Mixing names) h f = tt
    keyword to k (MixedName names) h f = tt
    keyword to k (MixedEnd names) h f = tt
    keyword to k (MixedDone names) h f = tt
    keyword to k NoContent h f = tt
    keyword to k AnyContent h f = tt

    text : (x : State) → Has x tokens → Moved (after_text x) (tokens ++ Text ∷ [])
    text (Want []) h = tt
    text (Want (None ∷ [])) (d, (before, inside, front, is, e)) = ap (λ l. l ++ Text ∷ []) (e ∙ ap (λ l. l ++ Open ∷ inside) front.0 ∙ ap (λ l. Open ∷ l) is)
    text (Want (None ∷ g ∷ gs)) h = tt
    text (Want (Some group ∷ fs)) h = tt
    text (Behind is_signed fs p) h = tt
    text (Mixing names) h = tt
    text (MixedName names) h = tt
    text (MixedEnd names) h = tt
    text (MixedDone names) h = tt
    text NoContent h = tt
    text AnyContent h = tt

    word : (name : List ℕ) (x : State) → Has x tokens → Moved (after_word name x) (tokens ++ Word name ∷ [])
    word name (Want []) h = tt
    word name (Want (f ∷ fs)) (d, front) = record {
      depth = d;
      before = tokens;
      part = record { tokens = Word name ∷ []; particle = Name name };
      front = front;
      is = inl (name, refl);
      tokens_are = refl;
      particle_is = refl;
    }
    word name (Behind is_signed fs p) h = tt
    word name (Mixing names) h = tt
    word name (MixedName names) h =
        ap (λ l. l ++ Word name ∷ []) h
        ∙ ap (λ l. Open ∷ (Text ∷ l)) (append_assoc (alternatives names) (Between Choice ∷ []) (Word name ∷ []) ∙ sym (alternatives-push names name))
    word name (MixedEnd names) h = tt
    word name (MixedDone names) h = tt
    word name NoContent h = tt
    word name AnyContent h = tt

    moved : (k : Token) → Moved (after s k) (tokens ++ k ∷ [])
    moved Open = has_open s tokens has
    moved Close = has_close s tokens has
    moved (Between separator) = has_between separator s tokens has
    moved (Times o) = has_times o s tokens has
    moved Text = text s has
    moved Nothing = keyword NoContent Nothing s has (λ none. ap (λ l. l ++ Nothing ∷ []) none)
    moved Anything = keyword AnyContent Anything s has (λ none. ap (λ l. l ++ Anything ∷ []) none)
    moved (Word name) = word name s has

-- before the first token
pub has_start : Has (Want []) []
has_start = (64, (refl, refl))

abbrev part_of : List Token → Particle (List ℕ) → Part
part_of ts p = record { tokens = ts; particle = p }

-- the tokens are those of the model, if there is one
abbrev Made : List Token → Option (Content (List ℕ)) → Type 0
Made tokens None = Unit {0}
Made tokens (Some c) = IsModel c tokens

-- where the tokens may end, they are those of the model
pub has_finished : (s : State) (tokens : List Token) (content : Content (List ℕ)) → Has s tokens → finished s ≡ Some content → IsModel content tokens
has_finished s tokens content has e = subst (λ (o : Option (Content (List ℕ))). Made tokens o) e (made s has)
  where
    made : (x : State) → Has x tokens → Made tokens (finished x)
    made (Want fs) h = tt
    made (Behind is_signed [] p) h =
        let sign = any_sign is_signed h.depth [] h.part h.is in
        let at_64 = subst (λ (d : ℕ). MaySign (IsGroup d) h.part) h.front.1 sign in
        let same : h.part.tokens ≡ tokens = sym (h.tokens_are ∙ ap (λ l. l ++ h.part.tokens) h.front.0) in
        let whole : h.part ≡ part_of tokens p = ap (λ (l : List Token). part_of l h.part.particle) same ∙ ap (part_of tokens) (sym h.particle_is) in
        subst (MaySign (IsGroup 64)) whole at_64
    made (Behind is_signed (f ∷ fs) p) h = tt
    made (Mixing names) h = tt
    made (MixedName names) h = tt
    made (MixedEnd []) h = inr (refl, h)
    made (MixedEnd (name ∷ names)) h = tt
    made (MixedDone names) h = inl h
    made NoContent h = h
    made AnyContent h = h
