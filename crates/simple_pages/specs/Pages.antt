-- The one page of a result before there is layout (this project's own): its lines stand below one another, each as high as a line of 12pt.
use Rattle.std.specs.Prelude.{ℕ, ◌+◌, ◌*◌, pos, false, List, [], ◌∷◌, map, length, None, encode_utf8_all, if◌then◌else◌}
use Rattle.serna_kinds.specs.Names.{NameParts}
use Rattle.result_origin.specs.declared.pages.Face.{Face}
use Rattle.result_origin.specs.declared.pages.Run.{Run}
use Rattle.result_origin.specs.declared.pages.Line.{Line}
use Rattle.result_origin.specs.declared.pages.Page.{Page}
use Rattle.result_origin.specs.Pages.{PartValue}
use Rattle.result_origin.specs.Parts.{Mark}
use Rattle.simple_pages.specs.Groups.{ShownRun, runs_in, is_root, lines_in}

-- 12pt, plain and black (XSL 1.1, sections 7.9 and 7.18)
abbrev pub plain_face : Face
plain_face = record { size = pos 12000; bold = false; italic = false; color = 0; background = None }

abbrev pub plain_run : ShownRun → Run
plain_run run = record { text = run.text; origin = run.origin; face = plain_face; line_height = pos 14400 }

-- a run as one part of a line
abbrev pub whole_part : ShownRun → PartValue
whole_part run = record { run = plain_run run; start = 0; finish = length (encode_utf8_all run.text) }

-- the line of a place, from 0
abbrev pub line_at : ℕ → List ShownRun → Line
line_at place runs = record { x = pos 0; down = pos (14400 * place); height = pos 14400; parts = map whole_part runs }

abbrev pub lines_from : ℕ → List (List ShownRun) → List Line
lines_from place [] = []
lines_from place (group ∷ groups) = line_at place group ∷ lines_from (place + 1) groups

-- a result that begins with `fo:root` has a line for each of its groups, and any other has one line of all its runs
abbrev pub page_lines : List NameParts → List Mark → List Line
page_lines names marks = if is_root names marks then lines_from 0 (lines_in marks) else line_at 0 (runs_in marks) ∷ []

abbrev pub pages_of : List NameParts → List Mark → List Page
pages_of names marks = record { number = 1; lines = page_lines names marks } ∷ []
