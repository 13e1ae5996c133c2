-- Each stop of a view that is at a place stands at a place of its source.
use Rattle.std.proofs.Common.{◌≡◌, ℕ, ◌+◌, List, [], ◌∷◌, ◌++◌, map, length, Bool, true, false, if◌then◌else◌, Option, Some, None, refl, sym, ap, ◌∙◌, subst, arith, append_assoc}
use Rattle.std.proofs.lemmas.List.{append-nil}
use Rattle.std.specs.List.{AllByRecursion}
use Rattle.std.specs.Char.{encode_utf8}
use Rattle.std.specs.Str.{chars}
use Rattle.serna_kinds.specs.Names.{NameParts}
use Rattle.serna_kinds.specs.declared.cells.NodeName.{NodeName}
use Rattle.source_model.specs.Source.{Source}
use Rattle.source_primitives.specs.declared.primitive.CaretPlace.{CaretPlace}
use Rattle.source_primitives.specs.Places.{IsPlaceOf}
use Rattle.source_model.specs.Changes.{text_at}
use Rattle.result_origin.specs.declared.origin.Origin.{Origin}
use Rattle.result_origin.specs.declared.origin.Origin.TheVariants as origin
use Rattle.result_origin.specs.Pages.{shown_bytes}
use Rattle.result_origin.specs.Parts.{Mark}
use Rattle.style_sheet.specs.Sheet.{StyleValue}
use Rattle.template_run.specs.Batch.{batch}
use Rattle.simple_pages.specs.Groups.{ShownRun, runs_in, is_root, lines_in}
use Rattle.simple_pages.specs.Pages.{whole_part, line_at, lines_from, page_lines}
use Rattle.plain_editor.specs.Stops.{Boundary, behind_start, place_of, run_boundaries, part_boundaries, line_boundaries, Stop, stops_behind, view_stops}
use Rattle.source_primitives.proofs.TextPlaces.{size, size-append}
use Rattle.plain_editor.proofs.Encoded.{reads_whole}
use Rattle.plain_editor.proofs.Marks.{all_both, IsFrom, AreFrom, batch_from, AreRunsFrom, AreGroupsFrom, runs_from, lines_from_marks}

-- where something is at a place, it is one of the source
abbrev pub IsPlaceIf : Source → Option CaretPlace → Type 0
IsPlaceIf source (Some place) = IsPlaceOf source place
IsPlaceIf source None = Unit {0}

-- each boundary that is at a place stands at one of the source
abbrev IsLiveBoundary : Source → Boundary → Type 0
IsLiveBoundary s here = IsPlaceIf s (place_of here.origin)

abbrev AreLiveBoundaries : Source → List Boundary → Type 0
AreLiveBoundaries s bs = AllByRecursion (IsLiveBoundary s) bs

text_live : (s : Source) (n : NodeName) (text before behind : List ℕ) (page line column more : ℕ) → text_at s n.0 ≡ Some text → text ≡ before ++ behind → size before ≡ more →
    AreLiveBoundaries s (run_boundaries page line column more (origin.Text n 0) behind)
text_live s n text before [] page line column more is whole at =
    ((text, is, record { before = before; behind = []; whole = whole; place = omega (arith, at) }), tt)
text_live s n text before (c ∷ cs) page line column more is whole at = (
  (text, is, record { before = before; behind = c ∷ cs; whole = whole; place = omega (arith, at) }),
  text_live s n text (before ++ c ∷ []) cs page line (column + 1) (more + length (encode_utf8 c)) is (whole ∙ sym (append_assoc before (c ∷ []) cs))
      (size-append before (c ∷ []) ∙ (let one : size (c ∷ []) ≡ length (encode_utf8 c) = ap length (append-nil (encode_utf8 c)) in omega (arith, at, one))),
)

-- where what comes from a run is at no place
nowhere_live : (s : Source) (from : Origin) → ((more : ℕ) → place_of (behind_start more from) ≡ None) → (page line column more : ℕ) (text : List ℕ) →
    AreLiveBoundaries s (run_boundaries page line column more from text)
nowhere_live s from nowhere page line column more [] = (subst (IsPlaceIf s) (sym (nowhere more)) tt, tt)
nowhere_live s from nowhere page line column more (c ∷ cs) =
    (subst (IsPlaceIf s) (sym (nowhere more)) tt, nowhere_live s from nowhere page line (column + 1) (more + length (encode_utf8 c)) cs)

run_live : (s : Source) (text : List ℕ) (from : Origin) (page line column : ℕ) → IsFrom s text from → AreLiveBoundaries s (run_boundaries page line column 0 from text)
run_live s text (origin.Text n at) page line column is =
    subst (λ k. AreLiveBoundaries s (run_boundaries page line column 0 (origin.Text n k) text)) (sym is.0) (text_live s n text [] text page line column 0 is.1 refl refl)
run_live s text (origin.Attr n name at) page line column is = nowhere_live s (origin.Attr n name at) (λ more. refl) page line column 0 text
run_live s text (origin.Into n) page line column is =
    subst (λ t. AreLiveBoundaries s (run_boundaries page line column 0 (origin.Into n) t)) (sym is.0) (is.1, tt)
run_live s text (origin.Fixed rule) page line column is = nowhere_live s (origin.Fixed rule) (λ more. refl) page line column 0 text
run_live s text (origin.Computed rule n) page line column is = nowhere_live s (origin.Computed rule n) (λ more. refl) page line column 0 text

part_live : (s : Source) (page line column : ℕ) (runs : List ShownRun) → AreRunsFrom s runs → AreLiveBoundaries s (part_boundaries page line column (map whole_part runs))
part_live s page line column [] all = tt
part_live s page line column (run ∷ runs) all =
    let own : List Boundary = run_boundaries page line column 0 run.origin (chars (shown_bytes (whole_part run))) in
    let after : ℕ = column + length (chars (shown_bytes (whole_part run))) in
    all_both (IsLiveBoundary s) own (part_boundaries page line after (map whole_part runs))
    (subst (λ text. AreLiveBoundaries s (run_boundaries page line column 0 run.origin text)) (sym (reads_whole run.text)) (run_live s run.text run.origin page line column all.0))
    (part_live s page line after runs all.1)

line_live : (s : Source) (page number place : ℕ) (groups : List (List ShownRun)) → AreGroupsFrom s groups → AreLiveBoundaries s (line_boundaries page number (lines_from place groups))
line_live s page number place [] all = tt
line_live s page number place (group ∷ groups) all =
    all_both (IsLiveBoundary s) (part_boundaries page number 0 (map whole_part group)) (line_boundaries page (number + 1) (lines_from (place + 1) groups)) (part_live s page number 0 group all.0)
    (line_live s page (number + 1) (place + 1) groups all.1)

page_live : (s : Source) (b : Bool) (marks : List Mark) → AreFrom s marks → AreLiveBoundaries s (line_boundaries 1 1 (if b then lines_from 0 (lines_in marks) else line_at 0 (runs_in marks) ∷ []))
page_live s true marks all = line_live s 1 1 0 (lines_in marks) (lines_from_marks s marks all)
page_live s false marks all = line_live s 1 1 0 (runs_in marks ∷ []) (runs_from s marks all, tt)

stops_live : (s : Source) (before bs : List Boundary) → AreLiveBoundaries s bs → AllByRecursion (λ (stop : Stop). IsPlaceIf s (place_of stop.origin)) (stops_behind before bs)
stops_live s before [] all = tt
stops_live s before (b ∷ bs) all = (all.0, stops_live s (before ++ b ∷ []) bs all.1)

pub view_live : (names : List NameParts) (style : StyleValue) (s : Source) → AllByRecursion (λ (stop : Stop). IsPlaceIf s (place_of stop.origin)) (view_stops names style s)
unfolding view_stops
view_live names style s =
    let marks : List Mark = batch names style s in
    stops_live s [] (line_boundaries 1 1 (page_lines names marks) ++ [])
    (all_both (IsLiveBoundary s) (line_boundaries 1 1 (page_lines names marks)) [] (page_live s (is_root names marks) marks (batch_from names style s)) tt)

pub ruleset all = view_live
