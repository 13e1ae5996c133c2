-- What is seen on the pages of a source stands in the source.
use Rattle.std.proofs.Common.{◌≡◌, ℕ, ◌+◌, ◌-◌, List, [], ◌∷◌, map, length, take, Bool, true, false, if◌then◌else◌, Some, encode_utf8_all, sym, ap, ◌∙◌, arith}
use Rattle.std.proofs.Math.Seq.{take-length}
use Rattle.std.proofs.lemmas.List.{append-nil}
use Rattle.std.specs.List.{AllByRecursion}
use Rattle.serna_kinds.specs.Names.{NameParts}
use Rattle.source_model.specs.Source.{Source}
use Rattle.result_origin.specs.declared.origin.Origin.{Origin}
use Rattle.result_origin.specs.declared.origin.Origin.TheVariants as origin
use Rattle.result_origin.specs.declared.pages.Line.{Line}
use Rattle.result_origin.specs.Pages.{PartValue, shown_bytes}
use Rattle.result_origin.specs.Parts.{Mark}
use Rattle.style_sheet.specs.Sheet.{StyleValue}
use Rattle.template_run.specs.Batch.{batch}
use Rattle.simple_pages.specs.Groups.{ShownRun, runs_in, is_root, lines_in}
use Rattle.simple_pages.specs.Pages.{whole_part, line_at, lines_from}
use Rattle.plain_editor.specs.Stops.{behind_start}
use Rattle.plain_editor.specs.Views.{view_pages}
use Rattle.plain_editor.specs.Seen.{StandsThere, shown_characters, IsWholeText, ShowsItsPlace, ShowsItsWholeText, OfEachPart, ShowTheirPlaces, ShowWholeTexts}
use Rattle.plain_editor.proofs.Encoded.{reads_whole}
use Rattle.plain_editor.proofs.Marks.{IsFrom, AreFrom, batch_from, AreRunsFrom, AreGroupsFrom, runs_from, lines_from_marks}

-- a part that is a whole run shows its text
shown_whole : (run : ShownRun) → shown_bytes (whole_part run) ≡ encode_utf8_all run.text
shown_whole run =
    let all : length (encode_utf8_all run.text) - 0 ≡ length (encode_utf8_all run.text) = omega arith in
    ap (λ n. take n (encode_utf8_all run.text)) all ∙ take-length (encode_utf8_all run.text)

run_seen : (s : Source) (text bytes : List ℕ) (from : Origin) → IsFrom s text from → bytes ≡ encode_utf8_all text →
    (shown : List ℕ) × (bytes ≡ encode_utf8_all shown) × StandsThere s shown (behind_start 0 from)
run_seen s text bytes (origin.Text n at) is e = (text, e, ([], [], (is.1 ∙ ap Some (sym (append-nil text)), omega (arith, is.0))))
run_seen s text bytes (origin.Attr n name at) is e = (text, e, tt)
run_seen s text bytes (origin.Into n) is e = (text, e, is)
run_seen s text bytes (origin.Fixed rule) is e = (text, e, tt)
run_seen s text bytes (origin.Computed rule n) is e = (text, e, tt)

run_whole : (s : Source) (text shown : List ℕ) (from : Origin) → IsFrom s text from → shown ≡ text → IsWholeText s shown from
run_whole s text shown (origin.Text n at) is e = is.1 ∙ ap Some (sym e)
run_whole s text shown (origin.Attr n name at) is e = tt
run_whole s text shown (origin.Into n) is e = tt
run_whole s text shown (origin.Fixed rule) is e = tt
run_whole s text shown (origin.Computed rule n) is e = tt

-- what holds of the part that is a whole run, where the run comes from the source, holds of each part of a view's pages
abbrev pub OfEachRun : (PartValue → Type 0) → Source → Type 0
OfEachRun Holds s = (run : ShownRun) → IsFrom s run.text run.origin → Holds (whole_part run)

of_parts : (Holds : PartValue → Type 0) (s : Source) (runs : List ShownRun) → OfEachRun Holds s → AreRunsFrom s runs → AllByRecursion Holds (map whole_part runs)
of_parts Holds s [] one all = tt
of_parts Holds s (run ∷ runs) one all = (one run all.0, of_parts Holds s runs one all.1)

abbrev OfLines : (PartValue → Type 0) → List Line → Type 0
OfLines Holds lines = AllByRecursion (λ (line : Line). AllByRecursion Holds line.parts) lines

of_lines : (Holds : PartValue → Type 0) (s : Source) (place : ℕ) (groups : List (List ShownRun)) → OfEachRun Holds s → AreGroupsFrom s groups → OfLines Holds (lines_from place groups)
of_lines Holds s place [] one all = tt
of_lines Holds s place (group ∷ groups) one all = (of_parts Holds s group one all.0, of_lines Holds s (place + 1) groups one all.1)

of_page : (Holds : PartValue → Type 0) (s : Source) (b : Bool) (marks : List Mark) → OfEachRun Holds s → AreFrom s marks →
    OfLines Holds (if b then lines_from 0 (lines_in marks) else line_at 0 (runs_in marks) ∷ [])
of_page Holds s true marks one all = of_lines Holds s 0 (lines_in marks) one (lines_from_marks s marks all)
of_page Holds s false marks one all = (of_parts Holds s (runs_in marks) one (runs_from s marks all), tt)

pub of_view : (Holds : PartValue → Type 0) (names : List NameParts) (style : StyleValue) (s : Source) → OfEachRun Holds s → OfEachPart Holds (view_pages names style s)
of_view Holds names style s one = (of_page Holds s (is_root names (batch names style s)) (batch names style s) one (batch_from names style s), tt)

pub view_seen : (names : List NameParts) (style : StyleValue) (s : Source) → ShowTheirPlaces s (view_pages names style s)
view_seen names style s =
    of_view (ShowsItsPlace s) names style s (λ (run : ShownRun) is. run_seen s run.text (shown_bytes (whole_part run)) run.origin is (shown_whole run))

pub view_whole : (names : List NameParts) (style : StyleValue) (s : Source) → ShowWholeTexts s (view_pages names style s)
view_whole names style s =
    of_view (ShowsItsWholeText s) names style s (λ (run : ShownRun) is. run_whole s run.text (shown_characters (whole_part run)) run.origin is (reads_whole run.text))
