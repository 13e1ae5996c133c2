-- `at` takes the first stop there that is at a place; where there is none, the first stop there says why it is refused.
use Rattle.std.proofs.Common.{◌≡◌, ℕ, ◌==◌, ◌&&◌, ◌⊎◌, inl, inr, Bool, true, false, List, [], ◌∷◌, filter, filter_map, Option, Some, None, if◌then◌else◌, IsSome, refl, sym, ap, ◌∙◌, subst}
use Rattle.std.proofs.lemmas.Bool.{and_parts, eq-eqb, eqb-true, false≢true}
use Rattle.std.proofs.lemmas.Option.{none-some}
use Rattle.std.specs.List.{cons_option}
use Rattle.std.specs.Option.{option_map}
use Rattle.source_primitives.specs.declared.primitive.Caret.{Caret}
use Rattle.source_primitives.specs.declared.primitive.CaretPlace.{CaretPlace}
use Rattle.source_primitives.specs.Places.{is_there, moved_through}
use Rattle.plain_editor.specs.Stops.{Stop, place_of}
use Rattle.result_origin.specs.declared.origin.Origin.{Origin}
use Rattle.result_origin.specs.declared.origin.Origin.TheVariants as origin
use Rattle.style_sheet.specs.Sheet.{StyleValue}
use Rattle.plain_editor.specs.Commands.{command_of, At}
use Rattle.plain_editor.specs.Editor.{Editor, Reply, Done, Refused, Rule, NoView, NoPlace, Gone, refused_by, with_caret, stands_at, caret_of, put_first, put_at, obeyed, step}
use Rattle.plain_editor.specs.Choosing.{NoneIs, IsFirst, IsThere, IsPlaceThere, IsChosen, TakesFirst, FirstIsGone, TakesNone}

-- a stop is there where the test says so
there : (page line column : ℕ) (stop : Stop) → stands_at page line column stop ≡ true → IsThere page line column stop
there page line column stop e =
    let both = and_parts (stop.page == page && stop.line == line) (stop.column == column) e in
    let front = and_parts (stop.page == page) (stop.line == line) both.0 in
    (eqb-true stop.page page front.0, eqb-true stop.line line front.1, eqb-true stop.column column both.1)

elsewhere : (page line column : ℕ) (stop : Stop) → stands_at page line column stop ≡ false → IsThere page line column stop → ⊥
elsewhere page line column stop e is =
    let yes : stands_at page line column stop ≡ true = λ i. eq-eqb stop.page page is.0 i && eq-eqb stop.line line is.1 i && eq-eqb stop.column column is.2 i in
    false≢true (sym e ∙ yes)

-- one stop more in front
first_later : (Such : Stop → Type 0) (one : Stop) (stops : List Stop) (stop : Stop) → (Such one → ⊥) → IsFirst Such stops stop → IsFirst Such (one ∷ stops) stop
first_later Such one stops stop other first =
    record { before = one ∷ first.before; after = first.after; among = ap (λ rest. one ∷ rest) first.among; none = (other, first.none); is = first.is }

first_here : (Such : Stop → Type 0) (stop : Stop) (stops : List Stop) → Such stop → IsFirst Such (stop ∷ stops) stop
first_here Such stop stops is = record { before = []; after = stops; among = refl; none = tt; is = is }

-- the first of those that are there
abbrev Here : ℕ → ℕ → ℕ → List Stop → List Stop → Type 0
Here page line column stops here =
    (NoneIs (IsThere page line column) stops × (here ≡ [])) ⊎ ((stop : Stop) × IsFirst (IsThere page line column) stops stop × (rest : List Stop) × (here ≡ stop ∷ rest))

here_more : (page line column : ℕ) (stop : Stop) (stops here : List Stop) (b : Bool) → stands_at page line column stop ≡ b → Here page line column stops here →
    Here page line column (stop ∷ stops) (if b then stop ∷ here else here)
here_more page line column stop stops here true e is =
    inr (stop, first_here (IsThere page line column) stop stops (there page line column stop e), here, refl)
here_more page line column stop stops here false e (inl is) = inl ((elsewhere page line column stop e, is.0), is.1)
here_more page line column stop stops here false e (inr (first, is, rest, eq)) = inr (first, first_later (IsThere page line column) stop stops first (elsewhere page line column stop e) is, rest, eq)

those_here : (page line column : ℕ) (stops : List Stop) → Here page line column stops (filter (stands_at page line column) stops)
those_here page line column [] = inl (tt, refl)
those_here page line column (stop ∷ stops) =
    here_more page line column stop stops (filter (stands_at page line column) stops) (stands_at page line column stop) refl (those_here page line column stops)

-- the first of their places
record FirstCaret (page line column : ℕ) (stops : List Stop) (carets : List Caret) : Type 0 where
  stop : Stop
  first : IsFirst (IsPlaceThere page line column) stops stop
  place : CaretPlace
  at_place : place_of stop.origin ≡ Some place
  rest : List Caret
  taken : carets ≡ record { place = place; occurrence = stop.occurrence } ∷ rest

abbrev Carets : ℕ → ℕ → ℕ → List Stop → List Caret → Type 0
Carets page line column stops carets = (NoneIs (IsPlaceThere page line column) stops × (carets ≡ [])) ⊎ FirstCaret page line column stops carets

carets_later : (page line column : ℕ) (stop : Stop) (stops : List Stop) (carets : List Caret) → (IsPlaceThere page line column stop → ⊥) → Carets page line column stops carets →
    Carets page line column (stop ∷ stops) carets
carets_later page line column stop stops carets other (inl is) = inl ((other, is.0), is.1)
carets_later page line column stop stops carets other (inr is) = inr (record {
  stop = is.stop;
  first = first_later (IsPlaceThere page line column) stop stops is.stop other is.first;
  place = is.place;
  at_place = is.at_place;
  rest = is.rest;
  taken = is.taken;
})

no_place : (o : Option CaretPlace) → o ≡ None → IsSome o → ⊥
no_place None e is = cc
no_place (Some place) e is = absurd (none-some place (sym e))

carets_there : (page line column : ℕ) (stop : Stop) (stops : List Stop) (carets : List Caret) (o : Option CaretPlace) → place_of stop.origin ≡ o → IsThere page line column stop →
    Carets page line column stops carets → Carets page line column (stop ∷ stops) (cons_option (option_map (λ place. record { place = place; occurrence = stop.occurrence }) o) carets)
carets_there page line column stop stops carets None e is later = carets_later page line column stop stops carets (λ both. no_place (place_of stop.origin) e both.1) later
carets_there page line column stop stops carets (Some place) e is later = inr (record {
  stop = stop;
  first = first_here (IsPlaceThere page line column) stop stops (is, subst IsSome (sym e) refl);
  place = place;
  at_place = e;
  rest = carets;
  taken = refl;
})

carets_more : (page line column : ℕ) (stop : Stop) (stops here : List Stop) (b : Bool) → stands_at page line column stop ≡ b → Carets page line column stops (filter_map caret_of here) →
    Carets page line column (stop ∷ stops) (filter_map caret_of (if b then stop ∷ here else here))
carets_more page line column stop stops here true e later =
    carets_there page line column stop stops (filter_map caret_of here) (place_of stop.origin) refl (there page line column stop e) later
carets_more page line column stop stops here false e later =
    carets_later page line column stop stops (filter_map caret_of here) (λ both. elsewhere page line column stop e both.0) later

carets_here : (page line column : ℕ) (stops : List Stop) → Carets page line column stops (filter_map caret_of (filter (stands_at page line column) stops))
carets_here page line column [] = inl (tt, refl)
carets_here page line column (stop ∷ stops) =
    carets_more page line column stop stops (filter (stands_at page line column) stops) (stands_at page line column stop) refl (carets_here page line column stops)

-- what is answered
abbrev Answer : Type 0
Answer = Editor × Reply

abbrev rule_of : Reply → Rule → Rule
rule_of (Refused rule) other = rule
rule_of reply other = other

said_rule : (rule said other : Rule) → Refused rule ≡ Refused said → said ≡ rule
said_rule rule said other e = sym (ap (λ reply. rule_of reply other) e)

-- a place that is there, and one that is gone
abbrev placed : Editor → Editor → Bool → Answer
placed editor left is_there = if is_there then (left, Done) else (editor, Refused Gone)

there_done : (editor left : Editor) (b : Bool) → (placed editor left b).1 ≡ Done → (b ≡ true) × ((placed editor left b).0 ≡ left)
there_done editor left true e = (refl, refl)
there_done editor left false e = cc

there_gone : (editor left : Editor) (b : Bool) (rule : Rule) → (placed editor left b).1 ≡ Refused rule → (b ≡ false) × (rule ≡ Gone)
there_gone editor left true rule e = cc
there_gone editor left false rule e = (refl, said_rule Gone rule Gone e)

not_done : (editor : Editor) (here : List Stop) → (put_first editor here []).1 ≡ Done → ⊥
not_done editor [] e = cc
not_done editor (stop ∷ here) e = cc

not_gone : (from : Origin) → refused_by from ≡ Gone → ⊥
not_gone (origin.Text number at) e = cc
not_gone (origin.Attr number name at) e = cc
not_gone (origin.Into number) e = cc
not_gone (origin.Fixed rule) e = cc
not_gone (origin.Computed rule node) e = cc

first_refused_gone : (editor : Editor) (here : List Stop) → (put_first editor here []).1 ≡ Refused Gone → ⊥
first_refused_gone editor [] e = let same : Gone ≡ NoPlace = said_rule NoPlace Gone Gone e in cc
first_refused_gone editor (stop ∷ here) e = not_gone stop.origin (sym (said_rule (refused_by stop.origin) Gone Gone e))

taken_place : (page line column : ℕ) (editor : Editor) (stops : List Stop) (carets : List Caret) → editor.stops ≡ Some stops → (is : FirstCaret page line column stops carets) →
    IsChosen page line column editor is.stop is.place
taken_place page line column editor stops carets shown is = record { stops = stops; shown = shown; first = is.first; at_place = is.at_place }

abbrev now_at : Editor → CaretPlace → CaretPlace
now_at editor place = moved_through editor.since place

first_done : (editor : Editor) (page line column : ℕ) (stops here : List Stop) (carets : List Caret) → editor.stops ≡ Some stops → Carets page line column stops carets → (put_first editor here carets).1 ≡ Done →
    TakesFirst page line column editor (put_first editor here carets).0
first_done editor page line column stops here carets shown (inl is) e = absurd (not_done editor here (subst (λ cs. (put_first editor here cs).1 ≡ Done) is.1 e))
first_done editor page line column stops here carets shown (inr is) e =
    let left : Editor = with_caret editor (now_at editor is.place) is.stop.occurrence in
    let done = there_done editor left (is_there editor.source (now_at editor is.place)) (subst (λ cs. (put_first editor here cs).1 ≡ Done) is.taken e) in
    record {
      stop = is.stop;
      place = is.place;
      chosen = taken_place page line column editor stops carets shown is;
      there = done.0;
      caret = ap (λ cs. (put_first editor here cs).0) is.taken ∙ done.1;
    }

at_done : (editor : Editor) (page line column : ℕ) (stops : Option (List Stop)) → editor.stops ≡ stops → (put_at editor page line column stops).1 ≡ Done →
    TakesFirst page line column editor (put_at editor page line column stops).0
at_done editor page line column None shown e = cc
at_done editor page line column (Some stops) shown e =
    first_done editor page line column stops (filter (stands_at page line column) stops) (filter_map caret_of (filter (stands_at page line column) stops)) shown
    (carets_here page line column stops) e

-- a refusal where the first place is gone
first_gone : (editor : Editor) (page line column : ℕ) (stops here : List Stop) (carets : List Caret) → editor.stops ≡ Some stops → Carets page line column stops carets →
    (put_first editor here carets).1 ≡ Refused Gone → FirstIsGone page line column editor
first_gone editor page line column stops here carets shown (inl is) e = absurd (first_refused_gone editor here (subst (λ cs. (put_first editor here cs).1 ≡ Refused Gone) is.1 e))
first_gone editor page line column stops here carets shown (inr is) e =
    let left : Editor = with_caret editor (now_at editor is.place) is.stop.occurrence in
    let gone = there_gone editor left (is_there editor.source (now_at editor is.place)) Gone (subst (λ cs. (put_first editor here cs).1 ≡ Refused Gone) is.taken e) in
    record { stop = is.stop; place = is.place; chosen = taken_place page line column editor stops carets shown is; gone = gone.0 }

at_gone : (editor : Editor) (page line column : ℕ) (stops : Option (List Stop)) → editor.stops ≡ stops → (put_at editor page line column stops).1 ≡ Refused Gone → FirstIsGone page line column editor
at_gone editor page line column None shown e = let same : Gone ≡ NoView = said_rule NoView Gone Gone e in cc
at_gone editor page line column (Some stops) shown e =
    first_gone editor page line column stops (filter (stands_at page line column) stops) (filter_map caret_of (filter (stands_at page line column) stops)) shown
    (carets_here page line column stops) e

-- a refusal where there is no place
says_first : (editor : Editor) (page line column : ℕ) (stops here : List Stop) (rule : Rule) → Here page line column stops here → (put_first editor here []).1 ≡ Refused rule →
    (NoneIs (IsThere page line column) stops × (rule ≡ NoPlace)) ⊎ ((stop : Stop) × IsFirst (IsThere page line column) stops stop × (rule ≡ refused_by stop.origin))
says_first editor page line column stops here rule (inl is) e = inl (is.0, said_rule NoPlace rule rule (subst (λ xs. (put_first editor xs []).1 ≡ Refused rule) is.1 e))
says_first editor page line column stops here rule (inr (stop, first, rest, eq)) e =
    inr (stop, first, said_rule (refused_by stop.origin) rule rule (subst (λ xs. (put_first editor xs []).1 ≡ Refused rule) eq e))

first_refused : (editor : Editor) (page line column : ℕ) (stops here : List Stop) (carets : List Caret) (rule : Rule) → editor.stops ≡ Some stops → Carets page line column stops carets →
    Here page line column stops here → (put_first editor here carets).1 ≡ Refused rule → (rule ≡ Gone → ⊥) → TakesNone page line column editor rule
first_refused editor page line column stops here carets rule shown (inl is) those e live =
    record { stops = stops; shown = shown; no_place = is.0; says = says_first editor page line column stops here rule those (subst (λ cs. (put_first editor here cs).1 ≡ Refused rule) is.1 e) }
first_refused editor page line column stops here carets rule shown (inr is) those e live =
    let left : Editor = with_caret editor (now_at editor is.place) is.stop.occurrence in
    absurd (live (there_gone editor left (is_there editor.source (now_at editor is.place)) rule (subst (λ cs. (put_first editor here cs).1 ≡ Refused rule) is.taken e)).1)

at_refused : (editor : Editor) (page line column : ℕ) (rule : Rule) (stops : Option (List Stop)) → editor.stops ≡ stops → (put_at editor page line column stops).1 ≡ Refused rule → (rule ≡ NoView → ⊥) →
    (rule ≡ Gone → ⊥) → TakesNone page line column editor rule
at_refused editor page line column rule None shown e viewed live = absurd (viewed (said_rule NoView rule rule e))
at_refused editor page line column rule (Some stops) shown e viewed live =
    first_refused editor page line column stops (filter (stands_at page line column) stops) (filter_map caret_of (filter (stands_at page line column) stops)) rule shown
    (carets_here page line column stops) (those_here page line column stops) e live

-- there is no view
not_no_view : (from : Origin) → refused_by from ≡ NoView → ⊥
not_no_view (origin.Text number at) e = cc
not_no_view (origin.Attr number name at) e = cc
not_no_view (origin.Into number) e = cc
not_no_view (origin.Fixed rule) e = cc
not_no_view (origin.Computed rule node) e = cc

first_viewed : (editor : Editor) (here : List Stop) (carets : List Caret) → (put_first editor here carets).1 ≡ Refused NoView → ⊥
first_viewed editor here (caret ∷ carets) e =
    let now : CaretPlace = now_at editor caret.place in
    let same : NoView ≡ Gone = (there_gone editor (with_caret editor now caret.occurrence) (is_there editor.source now) NoView e).1 in
    cc
first_viewed editor [] [] e = let same : NoView ≡ NoPlace = said_rule NoPlace NoView NoView e in cc
first_viewed editor (stop ∷ here) [] e = not_no_view stop.origin (sym (said_rule (refused_by stop.origin) NoView NoView e))

at_no_view : (editor : Editor) (page line column : ℕ) (stops : Option (List Stop)) → editor.stops ≡ stops → (put_at editor page line column stops).1 ≡ Refused NoView → editor.stops ≡ None
at_no_view editor page line column None shown e = shown
at_no_view editor page line column (Some stops) shown e =
    absurd (first_viewed editor (filter (stands_at page line column) stops) (filter_map caret_of (filter (stands_at page line column) stops)) e)

-- from a command line
step_at : (style : StyleValue) (editor : Editor) (said : List ℕ) (page line column : ℕ) → command_of said ≡ At page line column → step style editor said ≡ put_at editor page line column editor.stops
step_at style editor said page line column says = ap (obeyed style editor) says

pub step_done : (style : StyleValue) (editor : Editor) (said : List ℕ) (page line column : ℕ) → command_of said ≡ At page line column → (step style editor said).1 ≡ Done →
    TakesFirst page line column editor (step style editor said).0
step_done style editor said page line column says e =
    let is = step_at style editor said page line column says in
    subst (λ (answer : Answer). TakesFirst page line column editor answer.0) (sym is)
    (at_done editor page line column editor.stops refl (subst (λ (answer : Answer). answer.1 ≡ Done) is e))

pub step_gone : (style : StyleValue) (editor : Editor) (said : List ℕ) (page line column : ℕ) → command_of said ≡ At page line column → (step style editor said).1 ≡ Refused Gone →
    FirstIsGone page line column editor
step_gone style editor said page line column says e =
    at_gone editor page line column editor.stops refl (subst (λ (answer : Answer). answer.1 ≡ Refused Gone) (step_at style editor said page line column says) e)

pub step_no_view : (style : StyleValue) (editor : Editor) (said : List ℕ) (page line column : ℕ) → command_of said ≡ At page line column → (step style editor said).1 ≡ Refused NoView →
    editor.stops ≡ None
step_no_view style editor said page line column says e =
    at_no_view editor page line column editor.stops refl (subst (λ (answer : Answer). answer.1 ≡ Refused NoView) (step_at style editor said page line column says) e)

pub step_refused : (style : StyleValue) (editor : Editor) (said : List ℕ) (page line column : ℕ) (rule : Rule) → command_of said ≡ At page line column → (step style editor said).1 ≡ Refused rule →
    (rule ≡ NoView → ⊥) → (rule ≡ Gone → ⊥) → TakesNone page line column editor rule
step_refused style editor said page line column rule says e viewed live =
    at_refused editor page line column rule editor.stops refl (subst (λ (answer : Answer). answer.1 ≡ Refused rule) (step_at style editor said page line column says) e) viewed live

-- it is done or refused
placed_answered : (editor left : Editor) (b : Bool) → ((placed editor left b).1 ≡ Done) ⊎ ((rule : Rule) × ((placed editor left b).1 ≡ Refused rule))
placed_answered editor left true = inl refl
placed_answered editor left false = inr (Gone, refl)

first_answered : (editor : Editor) (here : List Stop) (carets : List Caret) → ((put_first editor here carets).1 ≡ Done) ⊎ ((rule : Rule) × ((put_first editor here carets).1 ≡ Refused rule))
first_answered editor here (caret ∷ carets) =
    let now : CaretPlace = now_at editor caret.place in placed_answered editor (with_caret editor now caret.occurrence) (is_there editor.source now)
first_answered editor [] [] = inr (NoPlace, refl)
first_answered editor (stop ∷ here) [] = inr (refused_by stop.origin, refl)

at_answered : (editor : Editor) (page line column : ℕ) (stops : Option (List Stop)) →
    ((put_at editor page line column stops).1 ≡ Done) ⊎ ((rule : Rule) × ((put_at editor page line column stops).1 ≡ Refused rule))
at_answered editor page line column None = inr (NoView, refl)
at_answered editor page line column (Some stops) =
    first_answered editor (filter (stands_at page line column) stops) (filter_map caret_of (filter (stands_at page line column) stops))

pub step_answered : (style : StyleValue) (editor : Editor) (said : List ℕ) (page line column : ℕ) → command_of said ≡ At page line column →
    ((step style editor said).1 ≡ Done) ⊎ ((rule : Rule) × ((step style editor said).1 ≡ Refused rule))
step_answered style editor said page line column says =
    subst (λ (answer : Answer). (answer.1 ≡ Done) ⊎ ((rule : Rule) × (answer.1 ≡ Refused rule))) (sym (step_at style editor said page line column says))
    (at_answered editor page line column editor.stops)
