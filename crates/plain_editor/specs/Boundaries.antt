-- What stands on the right of a boundary between two characters of pages (this project's own).
use Rattle.std.specs.Prelude.{◌≡◌, ℕ, ◌+◌, List, ◌∷◌, ◌++◌, length, encode_utf8_all}
use Rattle.std.specs.List.{flat_map}
use Rattle.result_origin.specs.declared.origin.Origin.{Origin}
use Rattle.result_origin.specs.declared.pages.Line.{Line}
use Rattle.result_origin.specs.declared.pages.Page.{Page}
use Rattle.result_origin.specs.Pages.{PartValue}
use Rattle.plain_editor.specs.Stops.{behind_start, Boundary, boundary, Stop}
use Rattle.plain_editor.specs.Seen.{shown_characters}

-- the line is one of the pages' lines: it stands on the page of that number, as the line of that place among the page's, from 1
pub record IsLineOn (pages : List Page) (number place : ℕ) (line : Line) : Type 0 where
  pub earlier : List Page
  pub page : Page
  pub later : List Page
  pub on : pages ≡ earlier ++ page ∷ later
  pub numbered : page.number ≡ number
  pub above : List Line
  pub below : List Line
  pub among : page.lines ≡ above ++ line ∷ below
  pub counted : length above + 1 ≡ place

-- at this column a part of the line goes on with these characters, up to its end; the column counts the characters before it in the
-- line, and what stands there comes from as many bytes behind the part's start as its characters on the left have
pub record GoesOn (line : Line) (column : ℕ) (from : Origin) (right : List ℕ) : Type 0 where
  pub before : List PartValue
  pub part : PartValue
  pub after : List PartValue
  pub on : line.parts ≡ before ++ part ∷ after
  pub left : List ℕ
  pub cut : shown_characters part ≡ left ++ right
  pub counted : length (flat_map shown_characters before ++ left) ≡ column
  pub comes : behind_start (part.start + length (encode_utf8_all left)) part.run.origin ≡ from

-- at a boundary these characters stand on the right, up to the end of their part
abbrev pub StandsOnRight : List Page → Boundary → List ℕ → Type 0
StandsOnRight pages here right = (line : Line) × IsLineOn pages here.page here.line line × GoesOn line here.column here.origin right

-- the boundary that a stop is at
abbrev pub boundary_of : Stop → Boundary
boundary_of stop = boundary stop.page stop.line stop.column stop.origin
