-- What is seen on pages stands in the source where the pages say that it comes from (this project's own).
use Rattle.std.specs.Prelude.{◌≡◌, ℕ, List, [], ◌++◌, Some, encode_utf8_all}
use Rattle.std.specs.List.{AllByRecursion}
use Rattle.std.specs.Str.{chars}
use Rattle.source_model.specs.Source.{Source}
use Rattle.source_model.specs.Changes.{text_at}
use Rattle.source_primitives.specs.declared.primitive.CaretPlace.TheVariants.{Text, Into}
use Rattle.source_primitives.specs.Places.{IsPlaceOf}
use Rattle.source_primitives.specs.Neighbours.{StandsBetween}
use Rattle.result_origin.specs.declared.origin.Origin.{Origin}
use Rattle.result_origin.specs.declared.origin.Origin.TheVariants as origin
use Rattle.result_origin.specs.declared.pages.Line.{Line}
use Rattle.result_origin.specs.declared.pages.Page.{Page}
use Rattle.result_origin.specs.Pages.{PartValue, shown_bytes}
use Rattle.plain_editor.specs.Stops.{behind_start}

-- these characters stand there in the source: in a text, from that place on; or they are none, inside an element that begins with no
-- text. A rule's own text and a value stand at no place of the source.
abbrev pub StandsThere : Source → List ℕ → Origin → Type 0
StandsThere source shown (origin.Text number at) = (before : List ℕ) × (after : List ℕ) × StandsBetween source (Text number at) before (shown ++ after)
StandsThere source shown (origin.Attr number name at) = Unit {0}
StandsThere source shown (origin.Into number) = (shown ≡ []) × IsPlaceOf source (Into number)
StandsThere source shown (origin.Fixed rule) = Unit {0}
StandsThere source shown (origin.Computed rule node) = Unit {0}

-- a part of a run shows characters that stand in the source where the part comes from
abbrev pub ShowsItsPlace : Source → PartValue → Type 0
ShowsItsPlace source part = (shown : List ℕ) × (shown_bytes part ≡ encode_utf8_all shown) × StandsThere source shown (behind_start part.start part.run.origin)

-- the characters that a part shows
abbrev pub shown_characters : PartValue → List ℕ
shown_characters part = chars (shown_bytes part)

-- where a part comes from a text of the source it shows the whole text
abbrev pub IsWholeText : Source → List ℕ → Origin → Type 0
IsWholeText source shown (origin.Text number at) = text_at source number.0 ≡ Some shown
IsWholeText source shown (origin.Attr number name at) = Unit {0}
IsWholeText source shown (origin.Into number) = Unit {0}
IsWholeText source shown (origin.Fixed rule) = Unit {0}
IsWholeText source shown (origin.Computed rule node) = Unit {0}

abbrev pub ShowsItsWholeText : Source → PartValue → Type 0
ShowsItsWholeText source part = IsWholeText source (shown_characters part) part.run.origin

-- what holds of each part of each line of pages
abbrev pub OfEachPart : (PartValue → Type 0) → List Page → Type 0
OfEachPart Holds pages = AllByRecursion (λ (page : Page). AllByRecursion (λ (line : Line). AllByRecursion Holds line.parts) page.lines) pages

abbrev pub ShowTheirPlaces : Source → List Page → Type 0
ShowTheirPlaces source pages = OfEachPart (ShowsItsPlace source) pages

abbrev pub ShowWholeTexts : Source → List Page → Type 0
ShowWholeTexts source pages = OfEachPart (ShowsItsWholeText source) pages
