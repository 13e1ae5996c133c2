-- The caret is put where it is seen, and what is typed comes to stand before it.
use Rattle.std.proofs.Common.{◌≡◌, ℕ, ◌+◌, List, ◌∷◌, ◌++◌, Some, refl, sym, ap, ◌∙◌, subst, append_assoc}
use Rattle.std.proofs.lemmas.Option.{same_Some}
use Rattle.serna_kinds.specs.declared.cells.NodeName.{NodeName}
use Rattle.source_primitives.specs.declared.primitive.CaretPlace.TheVariants as place
use Rattle.source_primitives.specs.Places.{moved_through}
use Rattle.source_primitives.specs.Neighbours.{StandsBetween}
use Rattle.source_primitives.proofs.TextPlaces.{size, size-append}
use Rattle.source_primitives.proofs.Neighbours.{text_put_in}
use Rattle.style_sheet.specs.Sheet.{StyleValue}
use Rattle.result_origin.specs.declared.pages.Page.{Page}
use Rattle.plain_editor.specs.Commands.{command_of, Show, At, Typing}
use Rattle.plain_editor.specs.Views.{view_pages}
use Rattle.plain_editor.specs.Stops.{boundary, Stop, view_stops}
use Rattle.plain_editor.specs.Editor.{Editor, Reply, Done, Long, Revisions, bytes_of, typed_at, obeyed, step}
use Rattle.plain_editor.specs.Boundaries.{StandsOnRight, boundary_of}
use Rattle.plain_editor.specs.Choosing.{TakesFirst}
use Rattle.plain_editor.specs.Carets.{IsShown, IsSeenAt, CaretBetween}
use Rattle.plain_editor.proofs.Boundaries.{each_of, view_stands, view_stop_on}
use Rattle.plain_editor.proofs.Choosing.{step_done}
use Rattle.plain_editor.proofs.Keystrokes.{done_if, typing_is}

abbrev Answer : Type 0
Answer = Editor × Reply

pub show_shown : (style : StyleValue) (editor : Editor) (said : List ℕ) → command_of said ≡ Show → IsShown style (step style editor said).0
show_shown style editor said says = subst (λ (answer : Answer). IsShown style answer.0) (sym (ap (obeyed style editor) says)) (refl, refl)

-- the stop that was taken is one of the view
taken_seen : (style : StyleValue) (editor new : Editor) (page line column : ℕ) → IsShown style editor → TakesFirst page line column editor new →
    IsSeenAt (view_pages editor.names style editor.source) editor.source page line column new.caret
taken_seen style editor new page line column is takes =
    let pages : List Page = view_pages editor.names style editor.source in
    let stops : List Stop = view_stops editor.names style editor.source in
    let first = takes.chosen.first in
    let same : stops ≡ first.before ++ takes.stop ∷ first.after = same_Some stops takes.chosen.stops (sym is.0 ∙ takes.chosen.shown) ∙ first.among in
    let on = each_of (λ (stop : Stop). (right : List ℕ) × StandsOnRight pages (boundary_of stop) right) stops first.before takes.stop first.after (view_stop_on editor.names style editor.source) same in
    let there = first.is.0 in
    let here : boundary_of takes.stop ≡ boundary page line column takes.stop.origin = λ i. boundary (there.0 i) (there.1 i) (there.2 i) takes.stop.origin in
    record {
      place = takes.place;
      occurrence = takes.stop.occurrence;
      is = ap (λ (e : Editor). e.caret) takes.caret ∙ ap (λ since. Some (record { place = moved_through since takes.place; occurrence = takes.stop.occurrence })) is.1;
      from = takes.stop.origin;
      at_place = takes.chosen.at_place;
      right = on.0;
      seen = subst (λ b. StandsOnRight pages b on.0) here on.1;
      stands = view_stands editor.names style editor.source (boundary_of takes.stop) on.0 on.1;
    }

pub put_seen : (style : StyleValue) (editor : Editor) (said : List ℕ) (page line column : ℕ) → IsShown style editor → command_of said ≡ At page line column → (step style editor said).1 ≡ Done →
    IsSeenAt (view_pages editor.names style editor.source) editor.source page line column (step style editor said).0.caret
put_seen style editor said page line column is says done = taken_seen style editor (step style editor said).0 page line column is (step_done style editor said page line column says done)

-- characters typed in a text
between_done : (editor : Editor) (text before behind : List ℕ) (number : NodeName) (at occurrence : ℕ) → StandsBetween editor.source (place.Text number at) before behind →
    (typed_at editor text (place.Text number at) occurrence).1 ≡ Done → CaretBetween (typed_at editor text (place.Text number at) occurrence).0 number (before ++ text) behind
between_done editor text before behind number at occurrence is e =
    done_if (λ left. CaretBetween left number (before ++ text) behind) _ Long editor _
    (done_if (λ left. CaretBetween left number (before ++ text) behind) _ Revisions editor _
    (λ _. (
      at + bytes_of text,
      occurrence,
      refl,
      (text_put_in editor.source number at before behind text is ∙ ap Some (sym (append_assoc before text behind)), size-append before text ∙ ap (λ n. n + size text) is.1),
    ))) e

pub typed_between : (style : StyleValue) (editor : Editor) (said text before behind : List ℕ) (number : NodeName) → command_of said ≡ Typing text → CaretBetween editor number before behind →
    (step style editor said).1 ≡ Done → CaretBetween (step style editor said).0 number (before ++ text) behind
typed_between style editor said text before behind number says (at, occurrence, has, is) done =
    let e = typing_is style editor said text (record { place = place.Text number at; occurrence = occurrence }) says has in
    subst (λ (a : Answer). CaretBetween a.0 number (before ++ text) behind) (sym e)
    (between_done editor text before behind number at occurrence is (subst (λ (a : Answer). a.1 ≡ Done) e done))
