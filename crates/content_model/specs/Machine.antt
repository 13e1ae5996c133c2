-- The reader of a model as a machine over bytes, from left to right. No public clause speaks of it.
use Rattle.std.specs.Prelude.{ℕ, Bool, true, false, ◌==◌, nat_lt, if◌then◌else◌, List, [], ◌∷◌, ◌++◌, Option, Some, None, codes, length}
use Rattle.std.specs.Option.{option_map}
use Rattle.content_model.specs.declared.particle.Separator.{Separator}
use Rattle.content_model.specs.declared.particle.Separator.TheVariants.{Sequence, Choice}
use Rattle.content_model.specs.declared.particle.Occurrence.{Occurrence}
use Rattle.content_model.specs.declared.particle.Occurrence.TheVariants.{Optional, ZeroOrMore, OneOrMore}
use Rattle.content_model.specs.declared.reader.NamePart.{NamePart}
use Rattle.content_model.specs.declared.reader.NamePart.TheVariants.{First, Colon, Local}
use Rattle.content_model.specs.Particle.{Particle, Content, Name, Joined, Repeated, Empty, Any, Mixed, Group}
use Rattle.serna_kinds.specs.Qualified.{begins_name, continues_name}
use Rattle.content_model.specs.Grammar.{Token, Open, Close, Between, Times}

-- a group that is open: its separator and the parts so far joined by it, if there are any
abbrev pub Frame : Type 0
Frame = Option (Separator × Particle (List ℕ))

-- where the reader stands between two tokens; the innermost open group first
pub data State : Type 0 where
  Want : List Frame → State
  Behind : Bool → List Frame → Particle (List ℕ) → State
  Mixing : List (List ℕ) → State
  MixedName : List (List ℕ) → State
  MixedEnd : List (List ℕ) → State
  MixedDone : List (List ℕ) → State
  NoContent : State
  AnyContent : State

-- a part put behind the parts of a group
abbrev pub gather : Frame → Particle (List ℕ) → Particle (List ℕ)
gather None p = p
gather (Some group) p = Joined group.0 group.1 p

-- whether two separators are the same
abbrev pub is_same : Separator → Separator → Bool
is_same Sequence Sequence = true
is_same Sequence Choice = false
is_same Choice Sequence = false
is_same Choice Choice = true

-- whether the separator may come behind a part of the group
abbrev pub may_follow : Frame → Separator → Bool
may_follow None s = true
may_follow (Some group) s = is_same group.0 s

abbrev pub after_open : State → Option State
after_open (Want fs) = if nat_lt (length fs) 64 then Some (Want (None ∷ fs)) else None
after_open _ = None

abbrev pub close_group : List Frame → Particle (List ℕ) → Option State
close_group [] p = None
close_group (f ∷ fs) p = Some (Behind false fs (gather f p))

abbrev pub after_close : State → Option State
after_close (Behind signed fs p) = close_group fs p
after_close (Mixing names) = Some (MixedEnd names)
after_close _ = None

abbrev pub next_in_group : Separator → List Frame → Particle (List ℕ) → Option State
next_in_group s [] p = None
next_in_group s (f ∷ fs) p = if may_follow f s then Some (Want (Some (s, gather f p) ∷ fs)) else None

abbrev pub next_in_mixed : Separator → List (List ℕ) → Option State
next_in_mixed Sequence names = None
next_in_mixed Choice names = Some (MixedName names)

abbrev pub after_between : Separator → State → Option State
after_between s (Behind signed fs p) = next_in_group s fs p
after_between s (Mixing names) = next_in_mixed s names
after_between s _ = None

abbrev pub end_mixed : Occurrence → List (List ℕ) → Option State
end_mixed Optional names = None
end_mixed ZeroOrMore names = Some (MixedDone names)
end_mixed OneOrMore names = None

abbrev pub after_times : Occurrence → State → Option State
after_times o (Behind signed fs p) = if signed then None else Some (Behind true fs (Repeated o p))
after_times o (MixedEnd names) = end_mixed o names
after_times o _ = None

-- where a name is wanted
pub data Slot : Type 0 where
  InGroup : Frame → List Frame → Slot
  InMixed : List (List ℕ) → Slot

abbrev pub slot_state : Slot → State
slot_state (InGroup f fs) = Want (f ∷ fs)
slot_state (InMixed names) = MixedName names

abbrev pub filled : Slot → List ℕ → State
filled (InGroup f fs) name = Behind false (f ∷ fs) (Name name)
filled (InMixed names) name = Mixing (names ++ name ∷ [])

-- what the reader has of the present token
pub data Reading : Type 0 where
  At : State → Reading
  -- what is left of a fixed word, and where it leads
  Fixed : List ℕ → State → Reading
  InName : NamePart → List ℕ → Slot → Reading

-- the token of one byte
abbrev pub mark_at : ℕ → Option Token
mark_at b =
    if b == 40 then Some Open else
    if b == 41 then Some Close else
    if b == 44 then Some (Between Sequence) else
    if b == 124 then Some (Between Choice) else
    if b == 63 then Some (Times Optional) else
    if b == 42 then Some (Times ZeroOrMore) else
    if b == 43 then Some (Times OneOrMore) else None

-- where a token of one byte leads
abbrev pub after_mark : State → Token → Option State
after_mark s Open = after_open s
after_mark s Close = after_close s
after_mark s (Between separator) = after_between separator s
after_mark s (Times occurrence) = after_times occurrence s
after_mark s _ = None

abbrev pub begin_keyword : ℕ → Option Reading
begin_keyword b =
    if b == 69 then Some (Fixed (codes "MPTY") NoContent) else
    if b == 65 then Some (Fixed (codes "NY") AnyContent) else None

abbrev pub begin_text : Frame → List Frame → ℕ → Option Reading
begin_text None [] b = if b == 35 then Some (Fixed (codes "PCDATA") (Mixing [])) else None
begin_text None (f ∷ fs) b = None
begin_text (Some group) fs b = None

-- where the first byte of a word leads
abbrev pub begin_word : State → ℕ → Option Reading
begin_word (Want []) b = begin_keyword b
begin_word (Want (f ∷ fs)) b = if begins_name b then Some (InName First (b ∷ []) (InGroup f fs)) else begin_text f fs b
begin_word (MixedName names) b = if begins_name b then Some (InName First (b ∷ []) (InMixed names)) else None
begin_word _ b = None

abbrev pub begin_token : State → ℕ → Option Token → Option Reading
begin_token s b None = begin_word s b
begin_token s b (Some token) = option_map At (after_mark s token)

-- where a byte between two tokens leads
abbrev pub begin : State → ℕ → Option Reading
begin s b = if b == 32 then Some (At s) else begin_token s b (mark_at b)

-- the part of a name in which the next byte stands
abbrev pub next_part : NamePart → ℕ → Option NamePart
next_part First b = if continues_name b then Some First else if b == 58 then Some Colon else None
next_part Colon b = if begins_name b then Some Local else None
next_part Local b = if continues_name b then Some Local else None

abbrev pub end_name : NamePart → List ℕ → Slot → ℕ → Option Reading
end_name First name slot b = begin (filled slot name) b
end_name Colon name slot b = None
end_name Local name slot b = begin (filled slot name) b

abbrev pub in_name : NamePart → List ℕ → Slot → ℕ → Option NamePart → Option Reading
in_name part name slot b None = end_name part name slot b
in_name part name slot b (Some next) = Some (InName next (name ++ b ∷ []) slot)

-- a fixed word with what is left of it
abbrev pub fixed : List ℕ → State → Reading
fixed [] s = At s
fixed (b ∷ bs) s = Fixed (b ∷ bs) s

abbrev pub in_fixed : List ℕ → State → ℕ → Option Reading
in_fixed [] s b = None
in_fixed (c ∷ rest) s b = if c == b then Some (fixed rest s) else None

-- where a byte leads
abbrev pub step : Reading → ℕ → Option Reading
step (At s) b = begin s b
step (Fixed rest s) b = in_fixed rest s b
step (InName part name slot) b = in_name part name slot b (next_part part b)

-- where bytes lead
abbrev pub run : Option Reading → List ℕ → Option Reading
run None bytes = None
run (Some r) [] = Some r
run (Some r) (b ∷ bytes) = run (step r b) bytes

-- before the first byte
abbrev pub start : Reading
start = At (Want [])

abbrev pub group_end : List Frame → Particle (List ℕ) → Option (Content (List ℕ))
group_end [] p = Some (Group p)
group_end (f ∷ fs) p = None

abbrev pub mixed_end : List (List ℕ) → Option (Content (List ℕ))
mixed_end [] = Some (Mixed [])
mixed_end (name ∷ names) = None

-- the model, where the text may end
abbrev pub finished : State → Option (Content (List ℕ))
finished (Behind signed fs p) = group_end fs p
finished (MixedEnd names) = mixed_end names
finished (MixedDone names) = Some (Mixed names)
finished NoContent = Some Empty
finished AnyContent = Some Any
finished _ = None

abbrev pub finish : Reading → Option (Content (List ℕ))
finish (At s) = finished s
finish _ = None
