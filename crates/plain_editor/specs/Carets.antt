-- Where a caret is seen, and what it stands between (this project's own).
use Rattle.std.specs.Prelude.{◌≡◌, ℕ, List, [], Option, Some}
use Rattle.serna_kinds.specs.declared.cells.NodeName.{NodeName}
use Rattle.source_model.specs.Source.{Source}
use Rattle.source_primitives.specs.declared.primitive.Caret.{Caret}
use Rattle.source_primitives.specs.declared.primitive.CaretPlace.{CaretPlace}
use Rattle.source_primitives.specs.declared.primitive.CaretPlace.TheVariants.{Text}
use Rattle.source_primitives.specs.Neighbours.{StandsBetween}
use Rattle.style_sheet.specs.Sheet.{StyleValue}
use Rattle.result_origin.specs.declared.origin.Origin.{Origin}
use Rattle.result_origin.specs.declared.pages.Page.{Page}
use Rattle.plain_editor.specs.Stops.{boundary, place_of, view_stops}
use Rattle.plain_editor.specs.Seen.{StandsThere}
use Rattle.plain_editor.specs.Boundaries.{StandsOnRight}
use Rattle.plain_editor.specs.Editor.{Editor}

-- the last show is one of the present source
abbrev pub IsShown : StyleValue → Editor → Type 0
IsShown style editor = (editor.stops ≡ Some (view_stops editor.names style editor.source)) × (editor.since ≡ [])

-- the caret stands where it is seen: what stands in that column of the pages comes from its place, and the characters on the right, up
-- to the end of their part, stand there in the source
pub record IsSeenAt (pages : List Page) (source : Source) (page line column : ℕ) (caret : Option Caret) : Type 0 where
  pub place : CaretPlace
  pub occurrence : ℕ
  pub is : caret ≡ Some (record { place = place; occurrence = occurrence })
  pub from : Origin
  pub at_place : place_of from ≡ Some place
  pub right : List ℕ
  pub seen : StandsOnRight pages (boundary page line column from) right
  pub stands : StandsThere source right from

-- the caret stands in the text of a number, behind these characters of it and in front of those
abbrev pub CaretBetween : Editor → NodeName → List ℕ → List ℕ → Type 0
CaretBetween editor number before behind =
    (at : ℕ) × (occurrence : ℕ) × (editor.caret ≡ Some (record { place = Text number at; occurrence = occurrence })) × StandsBetween editor.source (Text number at) before behind
