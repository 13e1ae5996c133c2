-- What holds of the plain editor between any two commands (this project's own).
use Rattle.std.specs.Prelude.{List, [], ◌∷◌, Option, Some, None}
use Rattle.std.specs.List.{AllByRecursion}
use Rattle.serna_kinds.specs.Names.{NameParts}
use Rattle.source_model.specs.Source.{Source}
use Rattle.source_model.specs.Proper.{IsProper}
use Rattle.source_primitives.specs.declared.primitive.Caret.{Caret}
use Rattle.source_primitives.specs.declared.primitive.Primitive.{Primitive}
use Rattle.source_primitives.specs.declared.primitive.Moves.{Moves}
use Rattle.source_primitives.specs.Places.{IsPlaceOf, IsNear, Lasts, carried, moved, moved_through}
use Rattle.source_primitives.specs.declared.primitive.CaretPlace.{CaretPlace}
use Rattle.plain_editor.specs.Stops.{Stop, place_of}
use Rattle.plain_editor.specs.Editor.{Editor}

abbrev pub IsCaretOf : Source → Option Caret → Type 0
IsCaretOf source None = Unit {0}
IsCaretOf source (Some caret) = IsPlaceOf source caret.place

-- a place stays near on its way through some prims
abbrev pub StaysNear : List Primitive → CaretPlace → Type 0
StaysNear [] place = IsNear place
StaysNear (prim ∷ prims) place = IsNear place × StaysNear prims (carried prim place)

-- and on its way through some changes
abbrev pub GoesNear : List Moves → CaretPlace → Type 0
GoesNear [] place = IsNear place
GoesNear (moves ∷ since) place = StaysNear moves.prims place × GoesNear since (moved moves place)

-- where a stop is at a place, the place, moved by the changes since, was one of the source and is so while its node is there
abbrev pub IsLive : Source → List Moves → Option CaretPlace → Type 0
IsLive source since (Some place) = GoesNear since place × Lasts source (moved_through since place)
IsLive source since None = Unit {0}

abbrev pub AreLive : Source → List Moves → Option (List Stop) → Type 0
AreLive source since None = Unit {0}
AreLive source since (Some stops) = AllByRecursion (λ (stop : Stop). IsLive source since (place_of stop.origin)) stops

-- the source is proper, the caret stands at a place of it, and so does each stop of the last show, moved to now, or it is gone
pub record IsSound (names : List NameParts) (editor : Editor) : Type 0 where
  pub proper : IsProper names editor.source
  pub caret : IsCaretOf editor.source editor.caret
  pub stops : AreLive editor.source editor.since editor.stops
