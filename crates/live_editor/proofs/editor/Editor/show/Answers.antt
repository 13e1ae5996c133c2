-- The stops that are kept are those of the view.
use Rattle.std.proofs.Common.{[], Some, List, sym, ap, ◌∙◌, subst}
use Rattle.std.specs.List.{flat_map}
use Rattle.source_primitives.specs.declared.primitive.Moves.{Moves}
use Rattle.plain_editor.specs.Views.{view_pages}
use Rattle.plain_editor.specs.Stops.{stops_behind, page_boundaries, view_stops}
use Rattle.plain_editor.specs.Stops as stops
use Rattle.plain_editor.specs.Commands as command
use Rattle.plain_editor.specs.Editor.{Editor}
use Rattle.plain_editor.proofs.Steps.{obeyed_sound}
use Rattle.live_editor.specs.Shown.{boundaries_of}
use Rattle.live_editor.specs.Held.{IsSoundEditor}
use Rattle.live_editor.proofs.editor.Editor.show.Goals as goal

abbrev with_view : Editor → List stops.Boundary → List Moves → Editor
with_view now boundaries since = record { names = now.names; source = now.source; revision = now.revision; caret = now.caret; stops = Some (stops_behind [] boundaries); since = since }

pub returns-clause-state : goal.returns-clause-state
unfolding view_stops
returns-clause-state c =
    let style = c.args.style.now in
    ap (λ (now : Editor). with_view now (boundaries_of c.in_ok-view.view.boundaries.items) c.clear.new.self.items) c.self.view_is
    ∙ ap (λ bs. with_view c.args.self.now bs c.clear.new.self.items)
    (c.in_ok-view.ensures.boundaries ∙ ap (λ (now : Editor). flat_map page_boundaries (view_pages now.names style now.source)) c.self.view_is)
    ∙ ap (λ ps. with_view c.args.self.now (flat_map page_boundaries (view_pages c.args.self.now.names style c.args.self.now.source)) ps) c.clear.ensures.items

pub invariant_of-self : goal.invariant_of-self
invariant_of-self c =
    let now : Editor = c.args.self.now in
    let sound : IsSoundEditor now = subst IsSoundEditor c.self.view_is c.self.invariant in
    subst IsSoundEditor (sym (returns-clause-state c)) (obeyed_sound c.args.style.now now.names now command.Show tt sound)
