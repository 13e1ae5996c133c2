-- The machine reads each text of a model, and stops at the first fault of every other.
use Rattle.std.proofs.Common.{◌≡◌, ◌<◌, ◌≤◌, ◌==◌, ℕ, suc, Bool, true, false, cond, List, [], ◌∷◌, ◌++◌, Option, Some, None, sym, refl, ap, ◌∙◌, subst, inl, inr, append_assoc, arith, length, codes, take, drop, get_or, eq-eqb}
use Rattle.std.specs.List.{AllByRecursion}
use Rattle.std.specs.Option.{option_map}
use Rattle.std.proofs.lemmas.Bool.{eqb-true, cases_lt}
use Rattle.std.proofs.lemmas.Grind.{common_steps}
use Rattle.std.proofs.lemmas.List.{append-nil, take-append-drop}
use Rattle.std.proofs.Math.Seq.{take-suc, take-length}
use Rattle.content_model.specs.declared.particle.Separator.TheVariants.{Sequence, Choice}
use Rattle.content_model.specs.declared.particle.Occurrence.TheVariants.{Optional, ZeroOrMore, OneOrMore}
use Rattle.content_model.specs.declared.reader.NamePart.{NamePart}
use Rattle.content_model.specs.declared.reader.NamePart.TheVariants.{First, Colon, Local}
use Rattle.content_model.specs.Particle.{Particle, Content, Name, Empty, Any, Mixed, Group}
use Rattle.serna_kinds.specs.Qualified.{begins_name, continues_name}
use Rattle.content_model.specs.Grammar.{Token, Open, Close, Between, Times, Text, Nothing, Anything, Word, IsName, spelling, IsToken, AreSpaces, Spells, IsText, BeginsModel, IsFirstFault}
use Rattle.content_model.specs.Machine.{Frame, State, Want, Behind, Mixing, MixedName, MixedEnd, MixedDone, NoContent, AnyContent, Slot, InGroup, InMixed, slot_state, filled, Reading, At, Fixed, InName, mark_at, begin_text, begin_token, begin, after_open, after_close, after_between, after_times, in_name, next_part, fixed, step, run, start, gather, finished, finish}
use Rattle.content_model.proofs.Completeness.{after, after_text, after_word, after_keyword, outcome, reads_model}
use Rattle.content_model.proofs.Bytes.{ending, run-append, HasBytes, has_run, has_begun, is_text}

-- Names

-- a name that has been read whole
abbrev WholeName : NamePart → Type 0
WholeName First = Unit {0}
WholeName Colon = ⊥
WholeName Local = Unit {0}

-- The rest of a name leads to its end
reads_first : (done bs : List ℕ) (slot : Slot) → AllByRecursion (λ c. continues_name c ≡ true) bs → run (Some (InName First done slot)) bs ≡ Some (InName First (done ++ bs) slot)
reads_first done [] slot all = ap (λ l. Some (InName First l slot)) (sym (append-nil done))
reads_first done (b ∷ bs) slot all =
    ap (λ v. run (in_name First done slot b (cond v (Some First) (cond (b == 58) (Some Colon) None))) bs) all.0
    ∙ reads_first (done ++ b ∷ []) bs slot all.1 ∙ ap (λ l. Some (InName First l slot)) (append_assoc done (b ∷ []) bs)

reads_local : (done bs : List ℕ) (slot : Slot) → AllByRecursion (λ c. continues_name c ≡ true) bs → run (Some (InName Local done slot)) bs ≡ Some (InName Local (done ++ bs) slot)
reads_local done [] slot all = ap (λ l. Some (InName Local l slot)) (sym (append-nil done))
reads_local done (b ∷ bs) slot all =
    ap (λ v. run (in_name Local done slot b (cond v (Some Local) None)) bs) all.0
    ∙ reads_local (done ++ b ∷ []) bs slot all.1 ∙ ap (λ l. Some (InName Local l slot)) (append_assoc done (b ∷ []) bs)

record NameRead (name : List ℕ) (slot : Slot) : Type 0 where
  head : ℕ
  tail : List ℕ
  part : NamePart
  whole : WholeName part
  is : name ≡ head ∷ tail
  begins : begins_name head ≡ true
  read : run (Some (InName First (head ∷ []) slot)) tail ≡ Some (InName part name slot)

name_read : (name : List ℕ) (slot : Slot) → IsName name → NameRead name slot
name_read [] slot (inl is) = absurd is
name_read (b ∷ bs) slot (inl is) = record { head = b; tail = bs; part = First; whole = tt; is = refl; begins = is.0; read = reads_first (b ∷ []) bs slot is.1 }
name_read name slot (inr ([], local, p, l, e)) = absurd p
name_read name slot (inr (b ∷ bs, [], p, l, e)) = absurd l
name_read name slot (inr (b ∷ bs, c ∷ cs, p, l, e)) = record {
  head = b;
  tail = bs ++ (58 ∷ (c ∷ cs));
  part = Local;
  whole = tt;
  is = e;
  begins = p.0;
  read =
      run-append (Some (InName First (b ∷ []) slot)) bs (58 ∷ (c ∷ cs))
      ∙ ap (λ o. run o (58 ∷ (c ∷ cs))) (reads_first (b ∷ []) bs slot p.1)
      ∙ ap (λ v. run (in_name Colon ((b ∷ bs) ++ 58 ∷ []) slot c (cond v (Some Local) None)) cs) l.0
      ∙ reads_local (((b ∷ bs) ++ 58 ∷ []) ++ c ∷ []) cs slot l.1
      ∙ ap (λ n. Some (InName Local n slot)) (append_assoc ((b ∷ bs) ++ 58 ∷ []) (c ∷ []) cs ∙ append_assoc (b ∷ bs) (58 ∷ []) (c ∷ cs) ∙ sym e);
}

skip : {A : Type 0} (c : Bool) (x y : A) → c ≡ false → cond c x y ≡ y
skip c x y e = ap (λ v. cond v x y) e

differs : (b n : ℕ) → begins_name b ≡ true → begins_name n ≡ false → (b == n) ≡ false
differs b n e f = go (b == n) refl
  where
    go : (c : Bool) → (b == n) ≡ c → c ≡ false
    go true g = let no : true ≡ false = sym e ∙ ap begins_name (eqb-true b n g) ∙ f in cc
    go false g = refl

no_mark : (b : ℕ) → begins_name b ≡ true → mark_at b ≡ None
no_mark b e =
    skip (b == 40) _ _ (differs b 40 e refl) ∙ skip (b == 41) _ _ (differs b 41 e refl) ∙ skip (b == 44) _ _ (differs b 44 e refl) ∙ skip (b == 124) _ _ (differs b 124 e refl)
    ∙ skip (b == 63) _ _ (differs b 63 e refl) ∙ skip (b == 42) _ _ (differs b 42 e refl) ∙ skip (b == 43) _ _ (differs b 43 e refl)

-- a name begins where one is wanted
name_begun : (slot : Slot) (b : ℕ) → begins_name b ≡ true → step (At (slot_state slot)) b ≡ Some (InName First (b ∷ []) slot)
name_begun (InGroup f fs) b e =
    skip (b == 32) _ _ (differs b 32 e refl) ∙ ap (begin_token (Want (f ∷ fs)) b) (no_mark b e)
    ∙ ap (λ v. cond v (Some (InName First (b ∷ []) (InGroup f fs))) (begin_text f fs b)) e
name_begun (InMixed names) b e =
    skip (b == 32) _ _ (differs b 32 e refl) ∙ ap (begin_token (MixedName names) b) (no_mark b e)
    ∙ ap (λ v. cond v (Some (InName First (b ∷ []) (InMixed names))) None) e

-- Text that goes on behind a name

record Delimited (text : List ℕ) : Type 0 where
  head : ℕ
  tail : List ℕ
  is : text ≡ head ∷ tail
  ends : (part : NamePart) → WholeName part → next_part part head ≡ None

stops : (b : ℕ) → continues_name b ≡ false → (b == 58) ≡ false → (part : NamePart) → WholeName part → next_part part b ≡ None
stops b e f First whole = skip (continues_name b) _ _ e ∙ skip (b == 58) _ _ f
stops b e f Colon whole = absurd whole
stops b e f Local whole = skip (continues_name b) _ _ e

at_byte : (b : ℕ) (rest text : List ℕ) → text ≡ b ∷ rest → continues_name b ≡ false → (b == 58) ≡ false → Delimited text
at_byte b rest text e f g = record { head = b; tail = rest; is = e; ends = stops b f g }

record Refused (s : State) : Type 0 where
  opened : after s Open ≡ None
  text : after s Text ≡ None
  nothing : after s Nothing ≡ None
  anything : after s Anything ≡ None
  word : (name : List ℕ) → after s (Word name) ≡ None
  unfinished : finished s ≡ None

refused : (slot : Slot) (name : List ℕ) → Refused (filled slot name)
refused (InGroup f fs) name = record { opened = refl; text = refl; nothing = refl; anything = refl; word = λ w. refl; unfinished = refl }
refused (InMixed names) name = record { opened = refl; text = refl; nothing = refl; anything = refl; word = λ w. refl; unfinished = refl }

delimited : (slot : Slot) (name : List ℕ) (ts : List Token) (text : List ℕ) (content : Content (List ℕ)) → Spells ts text → outcome (Some (filled slot name)) ts ≡ Some content → Delimited text
delimited slot name [] text content spelled e = let no : None ≡ Some content = sym (refused slot name).unfinished ∙ e in cc
delimited slot name (t ∷ ts) text content (g ∷ gs, rest, spaces, is, eq, more) e =
    at_byte 32 (gs ++ (spelling t ++ rest)) text (eq ∙ ap (λ x. x ∷ (gs ++ (spelling t ++ rest))) spaces.0) refl refl
delimited slot name (Open ∷ ts) text content ([], rest, spaces, is, eq, more) e = let no : None ≡ Some content = ap (λ o. outcome o ts) (sym (refused slot name).opened) ∙ e in cc
delimited slot name (Close ∷ ts) text content ([], rest, spaces, is, eq, more) e = at_byte 41 rest text eq refl refl
delimited slot name (Between Sequence ∷ ts) text content ([], rest, spaces, is, eq, more) e = at_byte 44 rest text eq refl refl
delimited slot name (Between Choice ∷ ts) text content ([], rest, spaces, is, eq, more) e = at_byte 124 rest text eq refl refl
delimited slot name (Times Optional ∷ ts) text content ([], rest, spaces, is, eq, more) e = at_byte 63 rest text eq refl refl
delimited slot name (Times ZeroOrMore ∷ ts) text content ([], rest, spaces, is, eq, more) e = at_byte 42 rest text eq refl refl
delimited slot name (Times OneOrMore ∷ ts) text content ([], rest, spaces, is, eq, more) e = at_byte 43 rest text eq refl refl
delimited slot name (Text ∷ ts) text content ([], rest, spaces, is, eq, more) e = let no : None ≡ Some content = ap (λ o. outcome o ts) (sym (refused slot name).text) ∙ e in cc
delimited slot name (Nothing ∷ ts) text content ([], rest, spaces, is, eq, more) e = let no : None ≡ Some content = ap (λ o. outcome o ts) (sym (refused slot name).nothing) ∙ e in cc
delimited slot name (Anything ∷ ts) text content ([], rest, spaces, is, eq, more) e = let no : None ≡ Some content = ap (λ o. outcome o ts) (sym (refused slot name).anything) ∙ e in cc
delimited slot name (Word w ∷ ts) text content ([], rest, spaces, is, eq, more) e = let no : None ≡ Some content = ap (λ o. outcome o ts) (sym ((refused slot name).word w)) ∙ e in cc

-- what is read behind a whole name is what is read where it leads
name_left : (part : NamePart) (slot : Slot) (name text : List ℕ) → WholeName part → Delimited text → run (Some (InName part name slot)) text ≡ run (Some (At (filled slot name))) text
name_left First slot name text whole d =
    ap (run (Some (InName First name slot))) d.is ∙ ap (λ o. run (in_name First name slot d.head o) d.tail) (d.ends First tt) ∙ ap (run (Some (At (filled slot name)))) (sym d.is)
name_left Colon slot name text whole d = absurd whole
name_left Local slot name text whole d =
    ap (run (Some (InName Local name slot))) d.is ∙ ap (λ o. run (in_name Local name slot d.head o) d.tail) (d.ends Local tt) ∙ ap (run (Some (At (filled slot name)))) (sym d.is)

spaces_read : (s : State) (gap : List ℕ) → AreSpaces gap → run (Some (At s)) gap ≡ Some (At s)
spaces_read s [] all = refl
spaces_read s (b ∷ bs) all = ap (λ x. run (begin s x) bs) all.0 ∙ spaces_read s bs all.1

-- Tokens, one after another

module _ (ts : List Token) (rest : List ℕ) (content : Content (List ℕ)) (goes_on : (s : State) → outcome (Some s) ts ≡ Some content → ending (run (Some (At s)) rest) ≡ Some content) where
  mark_read : (o : Option State) → outcome o ts ≡ Some content → ending (run (option_map At o) rest) ≡ Some content
  mark_read None e = cc
  mark_read (Some s) e = goes_on s e

  text_read : (s : State) → outcome (after_text s) ts ≡ Some content → ending (run (Some (At s)) (codes "#PCDATA" ++ rest)) ≡ Some content
  text_read (Want []) e = cc
  text_read (Want (None ∷ [])) e = goes_on (Mixing []) e
  text_read (Want (None ∷ f ∷ fs)) e = cc
  text_read (Want (Some group ∷ fs)) e = cc
  text_read (Behind is_signed fs p) e = cc
  text_read (Mixing names) e = cc
  text_read (MixedName names) e = cc
  text_read (MixedEnd names) e = cc
  text_read (MixedDone names) e = cc
  text_read NoContent e = cc
  text_read AnyContent e = cc

  nothing_read : (s : State) → outcome (after_keyword NoContent s) ts ≡ Some content → ending (run (Some (At s)) (codes "EMPTY" ++ rest)) ≡ Some content
  nothing_read (Want []) e = goes_on NoContent e
  nothing_read (Want (f ∷ fs)) e = cc
  nothing_read (Behind is_signed fs p) e = cc
  nothing_read (Mixing names) e = cc
  nothing_read (MixedName names) e = cc
  nothing_read (MixedEnd names) e = cc
  nothing_read (MixedDone names) e = cc
  nothing_read NoContent e = cc
  nothing_read AnyContent e = cc

  anything_read : (s : State) → outcome (after_keyword AnyContent s) ts ≡ Some content → ending (run (Some (At s)) (codes "ANY" ++ rest)) ≡ Some content
  anything_read (Want []) e = goes_on AnyContent e
  anything_read (Want (f ∷ fs)) e = cc
  anything_read (Behind is_signed fs p) e = cc
  anything_read (Mixing names) e = cc
  anything_read (MixedName names) e = cc
  anything_read (MixedEnd names) e = cc
  anything_read (MixedDone names) e = cc
  anything_read NoContent e = cc
  anything_read AnyContent e = cc

  slot_read : (slot : Slot) (name : List ℕ) → IsName name → Spells ts rest → outcome (Some (filled slot name)) ts ≡ Some content → ending (run (Some (At (slot_state slot))) (name ++ rest)) ≡ Some content
  slot_read slot name is spelled e =
      let n = name_read name slot is in
      ap (λ l. ending (run (Some (At (slot_state slot))) (l ++ rest))) n.is
      ∙ ap (λ o. ending (run o (n.tail ++ rest))) (name_begun slot n.head n.begins)
      ∙ ap ending (run-append (Some (InName First (n.head ∷ []) slot)) n.tail rest)
      ∙ ap (λ o. ending (run o rest)) n.read
      ∙ ap ending (name_left n.part slot name rest n.whole (delimited slot name ts rest content spelled e))
      ∙ goes_on (filled slot name) e

  word_read : (s : State) (name : List ℕ) → IsName name → Spells ts rest → outcome (after_word name s) ts ≡ Some content → ending (run (Some (At s)) (name ++ rest)) ≡ Some content
  word_read (Want []) name is spelled e = cc
  word_read (Want (f ∷ fs)) name is spelled e = slot_read (InGroup f fs) name is spelled e
  word_read (MixedName names) name is spelled e = slot_read (InMixed names) name is spelled e
  word_read (Behind is_signed fs p) name is spelled e = cc
  word_read (Mixing names) name is spelled e = cc
  word_read (MixedEnd names) name is spelled e = cc
  word_read (MixedDone names) name is spelled e = cc
  word_read NoContent name is spelled e = cc
  word_read AnyContent name is spelled e = cc

  token_read : (t : Token) (s : State) → IsToken t → Spells ts rest → outcome (after s t) ts ≡ Some content → ending (run (Some (At s)) (spelling t ++ rest)) ≡ Some content
  token_read Open s is spelled e = mark_read (after_open s) e
  token_read Close s is spelled e = mark_read (after_close s) e
  token_read (Between Sequence) s is spelled e = mark_read (after_between Sequence s) e
  token_read (Between Choice) s is spelled e = mark_read (after_between Choice s) e
  token_read (Times Optional) s is spelled e = mark_read (after_times Optional s) e
  token_read (Times ZeroOrMore) s is spelled e = mark_read (after_times ZeroOrMore s) e
  token_read (Times OneOrMore) s is spelled e = mark_read (after_times OneOrMore s) e
  token_read Text s is spelled e = text_read s e
  token_read Nothing s is spelled e = nothing_read s e
  token_read Anything s is spelled e = anything_read s e
  token_read (Word name) s is spelled e = word_read s name is spelled e

reads_text : (ts : List Token) (s : State) (text : List ℕ) (content : Content (List ℕ)) → Spells ts text → outcome (Some s) ts ≡ Some content → ending (run (Some (At s)) text) ≡ Some content
reads_text [] s text content spelled e = ap ending (spaces_read s text spelled) ∙ e
reads_text (t ∷ ts) s text content (gap, rest, spaces, is, eq, more) e =
    ap (λ l. ending (run (Some (At s)) l)) eq
    ∙ ap ending (run-append (Some (At s)) gap (spelling t ++ rest))
    ∙ ap (λ o. ending (run o (spelling t ++ rest))) (spaces_read s gap spaces)
    ∙ token_read ts rest content (λ x h. reads_text ts x rest content more h) t s is more e

-- the machine reads each text of a model
pub text_is_read : (text : List ℕ) (content : Content (List ℕ)) → IsText text content → ending (run (Some start) text) ≡ Some content
unfolding IsText
text_is_read text content (tokens, spelled, model) = reads_text tokens (Want []) text content spelled (reads_model content tokens model)

-- What is read can always be ended

abbrev CanEnd : Reading → Type 0
CanEnd r = (more : List ℕ) × (content : Content (List ℕ)) × (ending (run (Some r) more) ≡ Some content)

abbrev closing : List Frame → List ℕ
closing [] = []
closing (f ∷ fs) = 41 ∷ closing fs

behind_ends : (fs : List Frame) (p : Particle (List ℕ)) (is_signed : Bool) → (content : Content (List ℕ)) × (ending (run (Some (At (Behind is_signed fs p))) (closing fs)) ≡ Some content)
behind_ends [] p is_signed = (Group p, refl)
behind_ends (f ∷ fs) p is_signed = behind_ends fs (gather f p) false

state_ends : (s : State) → CanEnd (At s)
state_ends (Want []) = (codes "EMPTY", Empty, refl)
state_ends (Want (f ∷ fs)) = let rest = behind_ends fs (gather f (Name (97 ∷ []))) false in (97 ∷ (41 ∷ closing fs), rest.0, rest.1)
state_ends (Behind is_signed fs p) = let rest = behind_ends fs p is_signed in (closing fs, rest.0, rest.1)
state_ends (Mixing names) = (codes ")*", Mixed names, refl)
state_ends (MixedName names) = (codes "a)*", Mixed (names ++ (97 ∷ []) ∷ []), refl)
state_ends (MixedEnd names) = (codes "*", Mixed names, refl)
state_ends (MixedDone names) = ([], Mixed names, refl)
state_ends NoContent = ([], Empty, refl)
state_ends AnyContent = ([], Any, refl)

slot_ends : (part : NamePart) (name : List ℕ) (slot : Slot) → CanEnd (InName part name slot)
slot_ends First name (InGroup f fs) = let rest = behind_ends fs (gather f (Name name)) false in (41 ∷ closing fs, rest.0, rest.1)
slot_ends First name (InMixed names) = (codes ")*", Mixed (names ++ name ∷ []), refl)
slot_ends Colon name (InGroup f fs) = let rest = behind_ends fs (gather f (Name (name ++ 97 ∷ []))) false in (97 ∷ (41 ∷ closing fs), rest.0, rest.1)
slot_ends Colon name (InMixed names) = (codes "a)*", Mixed (names ++ (name ++ 97 ∷ []) ∷ []), refl)
slot_ends Local name (InGroup f fs) = let rest = behind_ends fs (gather f (Name name)) false in (41 ∷ closing fs, rest.0, rest.1)
slot_ends Local name (InMixed names) = (codes ")*", Mixed (names ++ name ∷ []), refl)

fixed_read : (rest : List ℕ) (s : State) → run (Some (fixed rest s)) rest ≡ Some (At s)
fixed_read [] s = refl
fixed_read (c ∷ cs) s = ap (λ v. run (cond v (Some (fixed cs s)) None) cs) (eq-eqb c c refl) ∙ fixed_read cs s

can_end : (r : Reading) (text : List ℕ) → HasBytes r text → CanEnd r
can_end (At s) text has = state_ends s
can_end (Fixed [] s) text has = absurd has
can_end (Fixed (c ∷ cs) s) text has =
    let rest = state_ends s in
    ((c ∷ cs) ++ rest.0, rest.1, ap ending (run-append (Some (Fixed (c ∷ cs) s)) (c ∷ cs) rest.0) ∙ ap (λ o. ending (run o rest.0)) (fixed_read (c ∷ cs) s) ∙ rest.2)
can_end (InName part name slot) text has = slot_ends part name slot

-- Faults

ending_reading : (o : Option Reading) (content : Content (List ℕ)) → ending o ≡ Some content → (r : Reading) × (o ≡ Some r) × (finish r ≡ Some content)
ending_reading None content e = cc
ending_reading (Some r) content e = (r, refl, e)

-- what has been read begins a model's text
pub begins_model : (text : List ℕ) (r : Reading) → run (Some start) text ≡ Some r → BeginsModel text
unfolding BeginsModel
begins_model text r e =
    let rest = can_end r text (has_run (Some start) [] text r has_begun e) in
    let all : ending (run (Some start) (text ++ rest.0)) ≡ Some rest.1 = ap ending (run-append (Some start) text rest.0) ∙ ap (λ o. ending (run o rest.0)) e ∙ rest.2 in
    let last = ending_reading (run (Some start) (text ++ rest.0)) rest.1 all in
    (rest.0, rest.1, is_text (text ++ rest.0) last.0 rest.1 last.1 last.2)

-- what is not read begins none
pub begins_none : (text : List ℕ) → run (Some start) text ≡ None → BeginsModel text → ⊥
unfolding BeginsModel
begins_none text e (more, content, is) =
    let read = text_is_read (text ++ more) content is in
    let no : None ≡ Some content = ap (λ o. ending (run o more)) (sym e) ∙ ap ending (sym (run-append (Some start) text more)) ∙ read in cc

run_none : (more : List ℕ) → run None more ≡ None
run_none [] = refl
run_none (b ∷ bs) = refl

-- a byte at which the machine stops is the first fault
pub fault_at : (text : List ℕ) (place : ℕ) (r : Reading) → place < length text → run (Some start) (take place text) ≡ Some r → step r (get_or text place 0) ≡ None → IsFirstFault text place
fault_at text place r within e stop =
    let byte = get_or text place 0 in
    let ended : run (Some start) (take (suc place) text) ≡ None =
    ap (run (Some start)) (take-suc text place 0 within) ∙ run-append (Some start) (take place text) (byte ∷ []) ∙ ap (λ o. run o (byte ∷ [])) e ∙ ap (λ o. run o []) stop in
    record {
      within = omega arith;
      before = begins_model (take place text) r e;
      stuck = λ _ begins. begins_none (take (suc place) text) ended begins;
      none = λ content is.
          let whole : run (Some start) text ≡ None =
          ap (run (Some start)) (sym (take-append-drop (suc place) text)) ∙ run-append (Some start) (take (suc place) text) (drop (suc place) text) ∙ ap (λ o. run o (drop (suc place) text)) ended ∙ run_none (drop (suc place) text) in
          let no : None ≡ Some content = ap ending (sym whole) ∙ text_is_read text content is in cc;
    }

-- a text that ends too early
pub fault_end : (text : List ℕ) (r : Reading) → run (Some start) text ≡ Some r → finish r ≡ None → IsFirstFault text (length text)
fault_end text r e stop = record {
  within = omega arith;
  before = subst BeginsModel (sym (take-length text)) (begins_model text r e);
  stuck = λ less _. absurd (omega arith);
  none = λ content is. let no : None ≡ Some content = sym stop ∙ ap ending (sym e) ∙ text_is_read text content is in cc;
}

shorter : (a b : List ℕ) → BeginsModel (a ++ b) → BeginsModel a
unfolding BeginsModel
shorter a b (more, content, is) = (b ++ more, content, subst (λ l. IsText l content) (append_assoc a b more) is)

take-longer : (a b : ℕ) (l : List ℕ) → a ≤ b → take a (take b l) ≡ take a l
take-longer a b l le = grind (arith, common_steps)

not_before : (text : List ℕ) (a b : ℕ) → IsFirstFault text a → IsFirstFault text b → a < b → ⊥
not_before text a b f g less =
    let within = g.within in
    let inside : a < length text = omega arith in
    let parts : take b text ≡ take (suc a) text ++ drop (suc a) (take b text) =
    sym (take-append-drop (suc a) (take b text)) ∙ ap (λ l. l ++ drop (suc a) (take b text)) (take-longer (suc a) b text (omega arith)) in
    f.stuck inside (shorter (take (suc a) text) (drop (suc a) (take b text)) (subst BeginsModel parts g.before))

-- there is one first fault at most
pub one_fault : (text : List ℕ) (a b : ℕ) → IsFirstFault text a → IsFirstFault text b → a ≡ b
one_fault text a b f g =
    elim (cases_lt a b) [
      | inl less ↦ absurd (not_before text a b f g less)
      | inr le ↦ elim (cases_lt b a) [ inl less ↦ absurd (not_before text b a g f less) | inr ge ↦ omega arith ]
    ]
