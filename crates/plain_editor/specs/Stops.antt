-- The stops of pages: where a caret can be put on them (this project's own). A cluster is one character here, so that a character is one
-- column.
use Rattle.std.specs.Prelude.{ℕ, ◌+◌, ◌==◌, ◌&&◌, Bool, false, List, [], ◌∷◌, ◌++◌, length, filter, Option, Some, None}
use Rattle.std.specs.Char.{encode_utf8}
use Rattle.std.specs.List.{flat_map}
use Rattle.std.specs.Str.{chars}
use Rattle.serna_kinds.specs.Names.{NameParts}
use Rattle.source_model.specs.Source.{Source}
use Rattle.style_sheet.specs.Sheet.{StyleValue}
use Rattle.source_primitives.specs.declared.primitive.CaretPlace.{CaretPlace}
use Rattle.source_primitives.specs.declared.primitive.CaretPlace.TheVariants.{Text, Into}
use Rattle.result_origin.specs.declared.origin.Origin.{Origin}
use Rattle.result_origin.specs.declared.origin.Origin.TheVariants as origin
use Rattle.result_origin.specs.declared.pages.Line.{Line}
use Rattle.result_origin.specs.declared.pages.Page.{Page}
use Rattle.result_origin.specs.Pages.{PartValue, shown_bytes}
use Rattle.plain_editor.specs.Views.{view_pages}

-- where what stands so many bytes behind the start of a run comes from
abbrev pub behind_start : ℕ → Origin → Origin
behind_start more (origin.Text number at) = origin.Text number (at + more)
behind_start more (origin.Attr number name at) = origin.Attr number name (at + more)
behind_start more (origin.Into number) = origin.Into number
behind_start more (origin.Fixed rule) = origin.Fixed rule
behind_start more (origin.Computed rule node) = origin.Computed rule node

-- the place of the source that an origin is, if it is one
abbrev pub place_of : Origin → Option CaretPlace
place_of (origin.Text number at) = Some (Text number at)
place_of (origin.Attr number name at) = None
place_of (origin.Into number) = Some (Into number)
place_of (origin.Fixed rule) = None
place_of (origin.Computed rule node) = None

-- a boundary between two characters of a line, or at its start or end: its page, its line and its column, and where what stands there
-- comes from
pub record Boundary : Type 0 where
  pub page : ℕ
  pub line : ℕ
  pub column : ℕ
  pub origin : Origin

abbrev pub boundary : ℕ → ℕ → ℕ → Origin → Boundary
boundary page line column from = record { page = page; line = line; column = column; origin = from }

-- the boundaries of what is left of a run: before each of its characters, and behind the last
abbrev pub run_boundaries : ℕ → ℕ → ℕ → ℕ → Origin → List ℕ → List Boundary
run_boundaries page line column more from [] = boundary page line column (behind_start more from) ∷ []
run_boundaries page line column more from (c ∷ cs) =
    boundary page line column (behind_start more from) ∷ run_boundaries page line (column + 1) (more + length (encode_utf8 c)) from cs

-- the boundaries of a line, part by part
abbrev pub part_boundaries : ℕ → ℕ → ℕ → List PartValue → List Boundary
part_boundaries page line column [] = []
part_boundaries page line column (part ∷ parts) =
    run_boundaries page line column part.start part.run.origin (chars (shown_bytes part))
    ++ part_boundaries page line (column + length (chars (shown_bytes part))) parts

-- those of the lines of a page, the first of which has this number
abbrev pub line_boundaries : ℕ → ℕ → List Line → List Boundary
line_boundaries page number [] = []
line_boundaries page number (line ∷ lines) = part_boundaries page number 0 line.parts ++ line_boundaries page (number + 1) lines

abbrev pub page_boundaries : Page → List Boundary
page_boundaries page = line_boundaries page.number 1 page.lines

abbrev pub is_same_place : CaretPlace → CaretPlace → Bool
is_same_place (Text number at) (Text other place) = number.0 == other.0 && at == place
is_same_place (Text number at) (Into other) = false
is_same_place (Into number) (Text other place) = false
is_same_place (Into number) (Into other) = number.0 == other.0

abbrev pub comes_from : CaretPlace → Boundary → Bool
comes_from place here = elim (place_of here.origin) [ Some other ↦ is_same_place place other | None ↦ false ]

-- a stop: a boundary with its number, from 1, among the view's stops of the same place; a stop that is at no place has 0
pub record Stop : Type 0 where
  pub page : ℕ
  pub line : ℕ
  pub column : ℕ
  pub origin : Origin
  pub occurrence : ℕ

-- the number of a stop at that place behind these boundaries
abbrev pub occurrence_behind : List Boundary → Option CaretPlace → ℕ
occurrence_behind before (Some place) = 1 + length (filter (comes_from place) before)
occurrence_behind before None = 0

-- boundaries behind others, as stops
abbrev pub stops_behind : List Boundary → List Boundary → List Stop
stops_behind before [] = []
stops_behind before (here ∷ more) =
    record { page = here.page; line = here.line; column = here.column; origin = here.origin; occurrence = occurrence_behind before (place_of here.origin) }
    ∷ stops_behind (before ++ here ∷ []) more

-- the stops of pages, in order
abbrev pub stops_of : List Page → List Stop
stops_of pages = stops_behind [] (flat_map page_boundaries pages)

unfoldable pub view_stops : List NameParts → StyleValue → Source → List Stop
view_stops names style source = stops_of (view_pages names style source)
