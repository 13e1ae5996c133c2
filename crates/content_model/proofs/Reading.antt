-- What the reader's steps show.
use Rattle.std.proofs.Common.{◌≡◌, ◌<◌, ◌≤◌, ◌+◌, ◌-◌, ℕ, suc, Bool, true, false, cond, List, [], ◌∷◌, ◌++◌, Option, Some, None, Bor, sym, refl, ap, ◌∙◌, subst, arith, append_assoc, length, get_or, take, drop, eq-eqb, is_some, unwrap_or, slice_range}
use Rattle.std.proofs.lemmas.List.{append-nil, get_or-drop, length-drop}
use Rattle.std.proofs.Math.Seq.{take-suc}
use Rattle.content_model.specs.declared.reader.NamePart.{NamePart}
use Rattle.content_model.specs.declared.reader.NamePart.TheVariants.{First, Colon, Local}
use Rattle.content_model.specs.declared.reader.Token.TheVariants as token
use Rattle.content_model.specs.declared.reader.Reader.{Reader}
use Rattle.content_model.specs.Symbols.{symbol_in, number_in, with_name, Grows}
use Rattle.content_model.specs.Machine.{State, Slot, slot_state, filled, Reading, At, Fixed, InName, begin, begin_word, begin_token, mark_at, fixed, in_fixed, next_part, in_name, end_name, step}
use Rattle.content_model.specs.Shown.{Shows}
use Rattle.content_model.specs.ShownReader.{ReadsAs, Reads, GoesAs, Goes, IsLeft, IsOff, is_colon}
use Rattle.content_model.specs.declared.builder.Builder.{Builder}
use Rattle.content_model.proofs.Table.{symbol_lasting}
use Rattle.content_model.proofs.Building.{not_equal}

pub grows_refl : (t : List (List ℕ)) → Grows t t
grows_refl t = ([], sym (append-nil t))

pub grows_trans : (a b c : List (List ℕ)) → Grows a b → Grows b c → Grows a c
grows_trans a b c (x, e) (y, f) = (x ++ y, f ∙ ap (λ l. l ++ y) e ∙ append_assoc a x y)

pub with_name_grows : (names : List (List ℕ)) (w : List ℕ) → Grows names (with_name names w)
with_name_grows names w = go (is_some (symbol_in names w))
  where
    go : (b : Bool) → Grows names (cond b names (names ++ w ∷ []))
    go true = grows_refl names
    go false = (w ∷ [], refl)

-- a name keeps its number in every later table
pub number_later : (table later : List (List ℕ)) (w : List ℕ) (n : ℕ) → symbol_in table w ≡ Some n → Grows table later → number_in later w ≡ n
number_later table later w n e (more, f) = ap (λ t. number_in t w) f ∙ ap (λ o. unwrap_or o 0) (symbol_lasting table more w n e)

-- what holds in every later table
gathered : (table : List (List ℕ)) (text : List ℕ) (at : ℕ) (ok : Bool) (r : Reader) (o : Option Reading)
    → ((later : List (List ℕ)) → Grows table later → GoesAs (number_in later) text at ok r o) → Goes table text at ok r o
gathered table text at ok r None f = f table (grows_refl table)
gathered table text at ok r (Some reading) f = ((f table (grows_refl table)).0, λ later g. (f later g).1)

-- what beginning a token says
abbrev pub Begun : Bool → Reader → Reader → ℕ → ℕ → Type 0
Begun ok old new at byte = (number : List ℕ → ℕ) (s : State) (text : List ℕ) → old.token ≡ token.None → at < length text → get_or text at 0 ≡ byte
    → Shows number old.builder s → GoesAs number text (at + 1) ok new (begin s byte)

-- between two tokens
pub goes_at : (table text : _) (at byte : ℕ) (ok : Bool) (old new : Reader) → old.token ≡ token.None → at < length text → get_or text at 0 ≡ byte → Begun ok old new at byte
    → (reading : Reading) → Reads table text at old reading → Goes table text (at + 1) ok new (step reading byte)
goes_at table text at byte ok old new none within is begun (At s) reads =
    gathered table text (at + 1) ok new (begin s byte) (λ later g. begun (number_in later) s text none within is (reads later g).1)
goes_at table text at byte ok old new none within is begun (Fixed rest s) reads =
    let has = reads table (grows_refl table) in
    let no : token.None ≡ token.Fixed has.0 = sym none ∙ has.1 in cc
goes_at table text at byte ok old new none within is begun (InName part name slot) reads =
    let has = reads table (grows_refl table) in
    let no : token.None ≡ token.Name part has.0 = sym none ∙ has.1 in cc

taken : (number : List ℕ → ℕ) (text : List ℕ) (at : ℕ) (new : Reader) (tail : List ℕ) (s : State) → IsLeft tail new.token → Shows number new.builder s → ReadsAs number text at new (fixed tail s)
taken number text at new [] s left shows = (left, shows)
taken number text at new (c ∷ cs) s left shows = (left.0, left.1, left.2, shows)

-- in a fixed word
pub goes_fixed : (table text : _) (at byte : ℕ) (old new : Reader) (word : Bor (List ℕ)) (tail : List ℕ) → old.token ≡ token.Fixed word → word.now ≡ byte ∷ tail → IsLeft tail new.token → new.builder ≡ old.builder
    → (reading : Reading) → Reads table text at old reading → Goes table text (at + 1) true new (step reading byte)
goes_fixed table text at byte old new word tail is goes left same (Fixed rest s) reads =
    let has = reads table (grows_refl table) in
    let words : token.Fixed word ≡ token.Fixed has.0 = sym is ∙ has.1 in
    let one : word ≡ has.0 = cc in
    let rests : rest ≡ byte ∷ tail = sym has.2 ∙ ap (λ (w : Bor (List ℕ)). w.now) (sym one) ∙ goes in
    let to : in_fixed rest s byte ≡ Some (fixed tail s) = ap (λ l. in_fixed l s byte) rests ∙ ap (λ v. cond v (Some (fixed tail s)) None) (eq-eqb byte byte refl) in
    subst (λ (o : Option Reading). Goes table text (at + 1) true new o) (sym to)
    (refl, λ later g. taken (number_in later) text (at + 1) new tail s left (subst (λ b. Shows (number_in later) b s) (sym same) (reads later g).3))
goes_fixed table text at byte old new word tail is goes left same (At s) reads =
    let no : token.Fixed word ≡ token.None = sym is ∙ (reads table (grows_refl table)).0 in cc
goes_fixed table text at byte old new word tail is goes left same (InName part name slot) reads =
    let has = reads table (grows_refl table) in
    let no : token.Fixed word ≡ token.Name part has.0 = sym is ∙ has.1 in cc

off : (rest : List ℕ) (s : State) (byte : ℕ) → IsOff rest byte → in_fixed rest s byte ≡ None
off [] s byte h = refl
off (c ∷ cs) s byte h = ap (λ v. cond v (Some (fixed cs s)) None) h

pub stops_fixed : (table text : _) (at byte : ℕ) (old new : Reader) (word : Bor (List ℕ)) → old.token ≡ token.Fixed word → IsOff word.now byte
    → (reading : Reading) → Reads table text at old reading → Goes table text (at + 1) false new (step reading byte)
stops_fixed table text at byte old new word is h (Fixed rest s) reads =
    let has = reads table (grows_refl table) in
    let words : token.Fixed word ≡ token.Fixed has.0 = sym is ∙ has.1 in
    let one : word ≡ has.0 = cc in
    let rests : word.now ≡ rest = ap (λ (w : Bor (List ℕ)). w.now) one ∙ has.2 in
    subst (λ (o : Option Reading). Goes table text (at + 1) false new o) (sym (off rest s byte (subst (λ l. IsOff l byte) rests h))) refl
stops_fixed table text at byte old new word is h (At s) reads =
    let no : token.Fixed word ≡ token.None = sym is ∙ (reads table (grows_refl table)).0 in cc
stops_fixed table text at byte old new word is h (InName part name slot) reads =
    let has = reads table (grows_refl table) in
    let no : token.Fixed word ≡ token.Name part has.0 = sym is ∙ has.1 in cc

range-more : (text : List ℕ) (from at : ℕ) → from ≤ at → at < length text → slice_range text from at ++ get_or text at 0 ∷ [] ≡ slice_range text from (at + 1)
range-more text from at le lt =
    let n = at - from in
    let there : from + n ≡ at = omega arith in
    let inside : n < length (drop from text) = omega (arith, length-drop from text) in
    let next : at + 1 - from ≡ suc n = omega arith in
    ap (λ x. take n (drop from text) ++ x ∷ []) (sym (get_or-drop from text n 0 ∙ ap (λ i. get_or text i 0) there))
    ∙ sym (take-suc (drop from text) n 0 inside) ∙ ap (λ i. take i (drop from text)) (sym next)

-- the first byte of a name
pub begun_name : (number : List ℕ → ℕ) (s : State) (text : List ℕ) (at byte : ℕ) (b : Builder) → (byte ≡ 32 → ⊥) → None ≡ mark_at byte → at < length text → get_or text at 0 ≡ byte
    → ((slot : Slot) × (begin_word s byte ≡ Some (InName First (byte ∷ []) slot)) × Shows number b (slot_state slot))
    → GoesAs number text (at + 1) true (record { token = token.Name First at; builder = b }) (begin s byte)
begun_name number s text at byte b no_space no_mark within is (slot, begins, shows) =
    let stepped : begin s byte ≡ Some (InName First (byte ∷ []) slot) =
    ap (λ v. cond v (Some (At s)) (begin_token s byte (mark_at byte))) (not_equal byte 32 no_space) ∙ ap (begin_token s byte) (sym no_mark) ∙ begins in
    let none : at - at ≡ 0 = omega arith in
    let one : byte ∷ [] ≡ slice_range text at (at + 1) =
    ap (λ x. x ∷ []) (sym is) ∙ ap (λ n. take n (drop at text) ++ get_or text at 0 ∷ []) (sym none) ∙ range-more text at at (omega arith) within in
    subst (λ (o : Option Reading). GoesAs number text (at + 1) true (record { token = token.Name First at; builder = b }) o) (sym stepped) (refl, (at, refl, one, shows))

-- In a name

pub record InNameAt (table : List (List ℕ)) (text : List ℕ) (at from : ℕ) (part : NamePart) (old : Reader) (reading : Reading) : Type 0 where
  pub slot : Slot
  pub is : reading ≡ InName part (slice_range text from at) slot
  pub shows : (later : List (List ℕ)) → Grows table later → Shows (number_in later) old.builder (slot_state slot)

pub in_name_at : (table text : _) (at from : ℕ) (part : NamePart) (old : Reader) → old.token ≡ token.Name part from → (reading : Reading) → Reads table text at old reading → InNameAt table text at from part old reading
in_name_at table text at from part old is (InName p name slot) reads =
    let has = reads table (grows_refl table) in
    let both : token.Name part from ≡ token.Name p has.0 = sym is ∙ has.1 in
    let same_part : p ≡ part = cc in
    let same_from : has.0 ≡ from = cc in
    record {
      slot = slot;
      is = ap (λ q. InName q name slot) same_part ∙ ap (λ n. InName part n slot) (has.2 ∙ ap (λ f. slice_range text f at) same_from);
      shows = λ later g. (reads later g).3;
    }
in_name_at table text at from part old is (At s) reads =
    let no : token.Name part from ≡ token.None = sym is ∙ (reads table (grows_refl table)).0 in cc
in_name_at table text at from part old is (Fixed rest s) reads =
    let has = reads table (grows_refl table) in
    let no : token.Name part from ≡ token.Fixed has.0 = sym is ∙ has.1 in cc

pub goes_in_name : (table text : _) (at from byte : ℕ) (part next : NamePart) (old new : Reader) → old.token ≡ token.Name part from → Some next ≡ next_part part byte → get_or text at 0 ≡ byte
    → from ≤ at → at < length text → new.token ≡ token.Name next from → new.builder ≡ old.builder
    → (reading : Reading) → Reads table text at old reading → Goes table text (at + 1) true new (step reading byte)
goes_in_name table text at from byte part next old new is goes b le lt to same reading reads =
    let has = in_name_at table text at from part old is reading reads in
    let name = slice_range text from at in
    let stepped : step reading byte ≡ Some (InName next (name ++ byte ∷ []) has.slot) =
    ap (λ r. step r byte) has.is ∙ ap (in_name part name has.slot byte) (sym goes) in
    let more : name ++ byte ∷ [] ≡ slice_range text from (at + 1) = ap (λ x. name ++ x ∷ []) (sym b) ∙ range-more text from at le lt in
    subst (λ (o : Option Reading). Goes table text (at + 1) true new o) (sym stepped)
    (refl, λ later g. (from, to, more, subst (λ x. Shows (number_in later) x (slot_state has.slot)) (sym same) (has.shows later g)))

pub stops_in_name : (table text : _) (at from byte : ℕ) (part : NamePart) (old new : Reader) → old.token ≡ token.Name part from → None ≡ next_part part byte → is_colon part ≡ true
    → (reading : Reading) → Reads table text at old reading → Goes table text (at + 1) false new (step reading byte)
stops_in_name table text at from byte part old new is goes colon reading reads =
    let has = in_name_at table text at from part old is reading reads in
    let name = slice_range text from at in
    let stepped : step reading byte ≡ None =
    ap (λ r. step r byte) has.is ∙ ap (in_name part name has.slot byte) (sym goes) ∙ end part colon name has.slot in
    subst (λ (o : Option Reading). Goes table text (at + 1) false new o) (sym stepped) refl
  where
    end : (p : NamePart) → is_colon p ≡ true → (name : List ℕ) (slot : Slot) → end_name p name slot byte ≡ None
    end First e name slot = cc
    end Colon e name slot = refl
    end Local e name slot = cc

pub goes_behind_name : (table new_table text : _) (at from byte : ℕ) (part : NamePart) (ok : Bool) (old middle new : Reader) → old.token ≡ token.Name part from → None ≡ next_part part byte → is_colon part ≡ false
    → Grows table new_table → middle.token ≡ token.None
    → ((later : List (List ℕ)) (slot : Slot) → Grows new_table later → Shows (number_in later) old.builder (slot_state slot) → Shows (number_in later) middle.builder (filled slot (slice_range text from at)))
    → at < length text → get_or text at 0 ≡ byte → Begun ok middle new at byte
    → (reading : Reading) → Reads table text at old reading → Goes new_table text (at + 1) ok new (step reading byte)
goes_behind_name table new_table text at from byte part ok old middle new is goes colon grown none named lt b begun reading reads =
    let has = in_name_at table text at from part old is reading reads in
    let name = slice_range text from at in
    let stepped : step reading byte ≡ begin (filled has.slot name) byte =
    ap (λ r. step r byte) has.is ∙ ap (in_name part name has.slot byte) (sym goes) ∙ end part colon name has.slot in
    subst (λ (o : Option Reading). Goes new_table text (at + 1) ok new o) (sym stepped)
    (gathered new_table text (at + 1) ok new (begin (filled has.slot name) byte)
    (λ later g. begun (number_in later) (filled has.slot name) text none lt b (named later has.slot g (has.shows later (grows_trans table new_table later grown g)))))
  where
    end : (p : NamePart) → is_colon p ≡ false → (name : List ℕ) (slot : Slot) → end_name p name slot byte ≡ begin (filled slot name) byte
    end First e name slot = refl
    end Colon e name slot = cc
    end Local e name slot = refl
