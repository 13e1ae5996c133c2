-- The caret is put at the stop that was found, moved to now, where its node is still there.
use Rattle.std.proofs.Common.{◌≡◌, Some, filter, filter_map, sym, ap, ◌∙◌, subst}
use Rattle.std.specs.Option.{option_map}
use Rattle.std.proofs.Common.{Vec, Global}
use Rattle.source_primitives.specs.Places.{Lasts, moved_through}
use Rattle.plain_editor.specs.Editor.{Editor, stands_at, caret_of, with_caret}
use Rattle.plain_editor.specs.Sound.{GoesNear}
use Rattle.live_editor.specs.declared.view.Boundary.{Boundary}
use Rattle.live_editor.specs.Held.{IsSoundEditor, IsHead, stops_of}
use Rattle.live_editor.proofs.Putting.{first_live, put_sound}
use Rattle.live_editor.proofs.editor.Editor.put_at.Goals as goal

pub moved_through-place-requires : goal.moved_through-place-requires
moved_through-place-requires c =
    let now : Editor = c.args.self.now in
    let sound : IsSoundEditor now = subst IsSoundEditor c.self.view_is c.self.invariant in
    let stops : now.stops ≡ Some (stops_of c.in-Some.boundaries.items) = sym (ap (λ (e : Editor). e.stops) c.self.view_is) ∙ ap (option_map (λ (v : Vec Boundary Global). stops_of v.items)) c.in-Some.is in
    let first = subst (λ bs. IsHead c.in_ok-caret.caret (filter_map caret_of (filter (stands_at c.args.page c.args.line c.args.column) (stops_of bs)))) c.as_slice.ensures.value c.in_ok-caret.ensures.first in
    let since : c.deref.result.now ≡ now.since = c.deref.ensures.value ∙ ap (λ (e : Editor). e.since) c.self.view_is in
    subst (λ ms. GoesNear ms c.in_ok-caret.caret.place) (sym since) (first_live now c.args.page c.args.line c.args.column c.in-Some.boundaries.items c.in_ok-caret.caret sound stops first).0

pub invariant_of-self : goal.invariant_of-self
invariant_of-self c =
    let now : Editor = c.args.self.now in
    let sound : IsSoundEditor now = subst IsSoundEditor c.self.view_is c.self.invariant in
    let stops : now.stops ≡ Some (stops_of c.in-Some.boundaries.items) = sym (ap (λ (e : Editor). e.stops) c.self.view_is) ∙ ap (option_map (λ (v : Vec Boundary Global). stops_of v.items)) c.in-Some.is in
    let first = subst (λ bs. IsHead c.in_ok-caret.caret (filter_map caret_of (filter (stands_at c.args.page c.args.line c.args.column) (stops_of bs)))) c.as_slice.ensures.value c.in_ok-caret.ensures.first in
    let since : c.deref.result.now ≡ now.since = c.deref.ensures.value ∙ ap (λ (e : Editor). e.since) c.self.view_is in
    let lasts = (first_live now c.args.page c.args.line c.args.column c.in-Some.boundaries.items c.in_ok-caret.caret sound stops first).1 in
    let place : c.moved_through-place.result ≡ moved_through now.since c.in_ok-caret.caret.place = c.moved_through-place.ensures ∙ ap (λ ms. moved_through ms c.in_ok-caret.caret.place) since in
    let is = (subst (Lasts now.source) (sym place) lasts).there (sym c.if-not-is_there.ensures) in
    let left = ap (λ (e : Editor). with_caret e c.moved_through-place.result c.in_ok-caret.caret.occurrence) c.self.view_is in
    subst IsSoundEditor (sym left) (put_sound now c.moved_through-place.result c.in_ok-caret.caret.occurrence sound is)
