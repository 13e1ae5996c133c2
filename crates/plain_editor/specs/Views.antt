-- The view of a source under a stylesheet: its pages, and how it is printed (this project's own).
use Rattle.std.specs.Prelude.{ℕ, List, [], ◌∷◌, ◌++◌, map, codes, encode_utf8_all, if◌then◌else◌}
use Rattle.std.specs.List.{flat_map}
use Rattle.serna_kinds.specs.Names.{NameParts}
use Rattle.source_model.specs.Source.{Source}
use Rattle.style_sheet.specs.Sheet.{StyleValue}
use Rattle.result_origin.specs.Parts.{Mark}
use Rattle.result_origin.specs.declared.pages.Page.{Page}
use Rattle.template_run.specs.Batch.{batch}
use Rattle.simple_pages.specs.Groups.{ShownRun, runs_in, is_root}
use Rattle.simple_pages.specs.Pages.{pages_of}
use Rattle.page_print.specs.Print.{printed, pages_text}

-- the texts of a result outside attributes, one after another
abbrev pub texts_of : List Mark → List ℕ
texts_of marks = flat_map (λ (run : ShownRun). run.text) (runs_in marks)

-- `plain` and these texts, a tab and LF as a space
abbrev pub plain_text : List Mark → List ℕ
plain_text marks = codes "plain " ++ (map printed (encode_utf8_all (texts_of marks)) ++ 10 ∷ [])

-- a result that begins with `fo:root` is printed page by page, and any other as one text
abbrev pub result_text : List NameParts → List Mark → List ℕ
result_text names marks = if is_root names marks then pages_text (pages_of names marks) else plain_text marks

abbrev pub view_pages : List NameParts → StyleValue → Source → List Page
view_pages names style source = pages_of names (batch names style source)

abbrev pub view_text : List NameParts → StyleValue → Source → List ℕ
view_text names style source = result_text names (batch names style source)
