-- What a view holds, in the plain editor's words.
use Rattle.std.specs.Prelude.{◌≡◌, ℕ, ◌+◌, ◌^◌, ◌<◌, Bool, true, false, List, map}
use Rattle.std.specs.List.{AllByRecursion}
use Rattle.result_origin.specs.declared.origin.Origin.{Origin}
use Rattle.result_origin.specs.declared.origin.Origin.TheVariants as origin
use Rattle.result_origin.specs.declared.pages.Line.{Line}
use Rattle.result_origin.specs.declared.pages.Page.{Page}
use Rattle.result_origin.specs.Pages.{PartValue}
use Rattle.page_print.specs.Print.{pages_text, plain_line}
use Rattle.live_editor.specs.declared.view.Boundary.{Boundary}
use Rattle.plain_editor.specs.Stops as stops

abbrev pub boundary_of : Boundary → stops.Boundary
boundary_of here = record { page = here.page; line = here.line; column = here.column; origin = here.origin }

abbrev pub boundaries_of : List Boundary → List stops.Boundary
boundaries_of here = map boundary_of here

-- the pages of a result that begins with `fo:root`, or of one that does not
abbrev pub laid_text : Bool → List Page → List ℕ
laid_text true pages = pages_text pages
laid_text false pages = plain_line pages

-- a place so many bytes behind can be said
abbrev pub HasRoom : ℕ → Origin → Type 0
HasRoom more (origin.Text number at) = at + more < 2 ^ 64
HasRoom more (origin.Attr number name at) = at + more < 2 ^ 64
HasRoom more (origin.Into number) = Unit {0}
HasRoom more (origin.Fixed rule) = Unit {0}
HasRoom more (origin.Computed rule node) = Unit {0}

-- what comes from a text or a value of the source comes from its start
abbrev pub IsAtStart : Origin → Type 0
IsAtStart (origin.Text number at) = at ≡ 0
IsAtStart (origin.Attr number name at) = at ≡ 0
IsAtStart (origin.Into number) = Unit {0}
IsAtStart (origin.Fixed rule) = Unit {0}
IsAtStart (origin.Computed rule node) = Unit {0}

-- before there is layout a part is a whole run
abbrev pub IsFromStart : PartValue → Type 0
IsFromStart part = (part.start ≡ 0) × IsAtStart part.run.origin

abbrev pub AreAtStart : List PartValue → Type 0
AreAtStart parts = AllByRecursion IsFromStart parts

abbrev pub AreLinesAtStart : List Line → Type 0
AreLinesAtStart lines = AllByRecursion (λ (line : Line). AreAtStart line.parts) lines

abbrev pub ArePagesAtStart : List Page → Type 0
ArePagesAtStart pages = AllByRecursion (λ (page : Page). AreLinesAtStart page.lines) pages
