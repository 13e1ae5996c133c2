-- What comes from a text or a value of the source, in the pages of a view, comes from its start.
use Rattle.std.proofs.Common.{ℕ, List, refl}
use Rattle.serna_kinds.specs.Names.{NameParts}
use Rattle.source_model.specs.Source.{Source}
use Rattle.result_origin.specs.declared.origin.Origin.{Origin}
use Rattle.result_origin.specs.declared.origin.Origin.TheVariants as origin
use Rattle.style_sheet.specs.Sheet.{StyleValue}
use Rattle.simple_pages.specs.Groups.{ShownRun}
use Rattle.plain_editor.specs.Views.{view_pages}
use Rattle.plain_editor.proofs.Marks.{IsFrom}
use Rattle.plain_editor.proofs.Seen.{of_view}
use Rattle.live_editor.specs.Shown.{IsAtStart, IsFromStart, ArePagesAtStart}

origin_start : (s : Source) (text : List ℕ) (from : Origin) → IsFrom s text from → IsAtStart from
origin_start s text (origin.Text n at) is = is.0
origin_start s text (origin.Attr n name at) is = is
origin_start s text (origin.Into n) is = tt
origin_start s text (origin.Fixed rule) is = tt
origin_start s text (origin.Computed rule n) is = tt

pub pages_start : (names : List NameParts) (style : StyleValue) (s : Source) → ArePagesAtStart (view_pages names style s)
pages_start names style s = of_view IsFromStart names style s (λ (run : ShownRun) is. (refl, origin_start s run.text run.origin is))
