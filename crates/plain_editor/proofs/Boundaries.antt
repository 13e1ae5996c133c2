-- What stands on the right of a boundary of pages stands in the source, and the stops of the pages are at these boundaries.
use Rattle.std.proofs.Common.{◌≡◌, ℕ, ◌+◌, List, [], ◌∷◌, ◌++◌, map, length, Some, encode_utf8_all, refl, sym, ap, ◌∙◌, subst, arith, append_assoc, length-append}
use Rattle.std.proofs.lemmas.List.{append-nil}
use Rattle.std.proofs.lemmas.List.Elements.{Contains-append_left, Contains-append_right}
use Rattle.std.proofs.lemmas.Grind.{flat_map-append}
use Rattle.std.specs.List.{flat_map, AllByRecursion, Contains}
use Rattle.std.specs.Char.{encode_utf8}
use Rattle.std.specs.Str.{chars}
use Rattle.serna_kinds.specs.Names.{NameParts}
use Rattle.source_model.specs.Source.{Source}
use Rattle.result_origin.specs.declared.origin.Origin.{Origin}
use Rattle.result_origin.specs.declared.origin.Origin.TheVariants as origin
use Rattle.result_origin.specs.declared.pages.Line.{Line}
use Rattle.result_origin.specs.declared.pages.Page.{Page}
use Rattle.result_origin.specs.Pages.{PartValue}
use Rattle.style_sheet.specs.Sheet.{StyleValue}
use Rattle.plain_editor.specs.Views.{view_pages}
use Rattle.plain_editor.specs.Stops.{behind_start, Boundary, boundary, run_boundaries, part_boundaries, line_boundaries, page_boundaries, Stop, stops_behind, stops_of, view_stops}
use Rattle.plain_editor.specs.Seen.{StandsThere, shown_characters, ShowsItsPlace, ShowTheirPlaces}
use Rattle.plain_editor.specs.Boundaries.{IsLineOn, StandsOnRight, boundary_of}
use Rattle.source_primitives.proofs.TextPlaces.{size, size-append}
use Rattle.plain_editor.proofs.Encoded.{reads_back}
use Rattle.plain_editor.proofs.Marks.{all_both}
use Rattle.plain_editor.proofs.Seen.{view_seen}

-- what holds of all holds of each
each : {A : Type 0} (P : A → Type 0) (before : List A) (x : A) (after : List A) → AllByRecursion P (before ++ x ∷ after) → P x
each P [] x after all = all.0
each P (y ∷ before) x after all = each P before x after all.1

pub each_of : {A : Type 0} (P : A → Type 0) (xs before : List A) (x : A) (after : List A) → AllByRecursion P xs → xs ≡ before ++ x ∷ after → P x
each_of P xs before x after all e = each P before x after (subst (AllByRecursion P) e all)

-- the rest of what stands somewhere stands behind its start
rest_stands : (s : Source) (left right : List ℕ) (start : ℕ) (from : Origin) → StandsThere s (left ++ right) (behind_start start from) → StandsThere s right (behind_start (start + size left) from)
rest_stands s left right start (origin.Text number at) is = (
  is.0 ++ left,
  is.1,
  (is.2.0 ∙ ap (λ t. Some (is.0 ++ t)) (append_assoc left right is.1) ∙ ap Some (sym (append_assoc is.0 left (right ++ is.1))), omega (arith, is.2.1, size-append is.0 left)),
)
rest_stands s left right start (origin.Attr number name at) is = tt
rest_stands s [] right start (origin.Into number) is = is
rest_stands s (c ∷ left) right start (origin.Into number) is = cc
rest_stands s left right start (origin.Fixed rule) is = tt
rest_stands s left right start (origin.Computed rule node) is = tt

right_stands : (s : Source) (pages : List Page) (here : Boundary) (right : List ℕ) → ShowTheirPlaces s pages → StandsOnRight pages here right → StandsThere s right here.origin
right_stands s pages here right all (line, on, goes) =
    let lines = each_of (λ (page : Page). AllByRecursion (λ (line : Line). AllByRecursion (ShowsItsPlace s) line.parts) page.lines) pages on.earlier on.page on.later all on.on in
    let parts = each_of (λ (line : Line). AllByRecursion (ShowsItsPlace s) line.parts) on.page.lines on.above line on.below lines on.among in
    let shows : ShowsItsPlace s goes.part = each_of (ShowsItsPlace s) line.parts goes.before goes.part goes.after parts goes.on in
    let same : shows.0 ≡ goes.left ++ right = sym (reads_back shows.0) ∙ ap chars (sym shows.1) ∙ goes.cut in
    subst (StandsThere s right) goes.comes
    (rest_stands s goes.left right goes.part.start goes.part.run.origin (subst (λ t. StandsThere s t (behind_start goes.part.start goes.part.run.origin)) same shows.2))

-- each boundary of a run, of parts, of lines and of pages is one on whose right something stands
abbrev IsOn : List Page → Boundary → Type 0
IsOn pages here = (right : List ℕ) × StandsOnRight pages here right

run_on : (pages : List Page) (page place : ℕ) (line : Line) (before : List PartValue) (part : PartValue) (after : List PartValue) (left right : List ℕ) (column more : ℕ) → IsLineOn pages page place line →
    line.parts ≡ before ++ part ∷ after → shown_characters part ≡ left ++ right → length (flat_map shown_characters before ++ left) ≡ column → part.start + size left ≡ more →
    AllByRecursion (IsOn pages) (run_boundaries page place column more part.run.origin right)
run_on pages page place line before part after left [] column more is on cut counted comes = (
  ([], (line, is, record { before = before; part = part; after = after; on = on; left = left; cut = cut; counted = counted; comes = ap (λ n. behind_start n part.run.origin) comes })),
  tt,
)
run_on pages page place line before part after left (c ∷ right) column more is on cut counted comes = (
  (c ∷ right, (line, is, record { before = before; part = part; after = after; on = on; left = left; cut = cut; counted = counted; comes = ap (λ n. behind_start n part.run.origin) comes })),
  run_on pages page place line before part after (left ++ c ∷ []) right (column + 1) (more + length (encode_utf8 c)) is on (cut ∙ sym (append_assoc left (c ∷ []) right))
      (let longer : length (flat_map shown_characters before ++ (left ++ c ∷ [])) ≡ length (flat_map shown_characters before ++ left) + 1 =
      ap length (sym (append_assoc (flat_map shown_characters before) left (c ∷ []))) ∙ length-append (flat_map shown_characters before ++ left) (c ∷ []) in longer ∙ ap (λ n. n + 1) counted)
      (let one : size (c ∷ []) ≡ length (encode_utf8 c) = ap length (append-nil (encode_utf8 c)) in omega (arith, comes, size-append left (c ∷ []), one)),
)

parts_on : (pages : List Page) (page place : ℕ) (line : Line) (before parts : List PartValue) (column : ℕ) → IsLineOn pages page place line → line.parts ≡ before ++ parts →
    length (flat_map shown_characters before) ≡ column → AllByRecursion (IsOn pages) (part_boundaries page place column parts)
parts_on pages page place line before [] column is on counted = tt
parts_on pages page place line before (part ∷ parts) column is on counted =
    let longer : length (flat_map shown_characters (before ++ part ∷ [])) ≡ column + length (shown_characters part) =
    ap length (flat_map-append shown_characters before (part ∷ [])) ∙ length-append (flat_map shown_characters before) (shown_characters part ++ [])
    ∙ ap (λ t. length (flat_map shown_characters before) + length t) (append-nil (shown_characters part)) ∙ ap (λ n. n + length (shown_characters part)) counted in
    all_both (IsOn pages) (run_boundaries page place column part.start part.run.origin (shown_characters part)) (part_boundaries page place (column + length (shown_characters part)) parts)
    (run_on pages page place line before part parts [] (shown_characters part) column part.start is on refl (ap length (append-nil (flat_map shown_characters before)) ∙ counted) (omega arith))
    (parts_on pages page place line (before ++ part ∷ []) parts (column + length (shown_characters part)) is (on ∙ sym (append_assoc before (part ∷ []) parts)) longer)

lines_on : (pages earlier : List Page) (page : Page) (later : List Page) (above lines : List Line) (place : ℕ) → pages ≡ earlier ++ page ∷ later → page.lines ≡ above ++ lines → length above + 1 ≡ place →
    AllByRecursion (IsOn pages) (line_boundaries page.number place lines)
lines_on pages earlier page later above [] place on among counted = tt
lines_on pages earlier page later above (line ∷ lines) place on among counted =
    all_both (IsOn pages) (part_boundaries page.number place 0 line.parts) (line_boundaries page.number (place + 1) lines)
    (parts_on pages page.number place line [] line.parts 0
    (record { earlier = earlier; page = page; later = later; on = on; numbered = refl; above = above; below = lines; among = among; counted = counted }) refl refl)
    (lines_on pages earlier page later (above ++ line ∷ []) lines (place + 1) on (among ∙ sym (append_assoc above (line ∷ []) lines)) (omega (arith, counted, length-append above (line ∷ []))))

pages_on : (pages earlier rest : List Page) → pages ≡ earlier ++ rest → AllByRecursion (IsOn pages) (flat_map page_boundaries rest)
pages_on pages earlier [] on = tt
pages_on pages earlier (page ∷ rest) on =
    all_both (IsOn pages) (page_boundaries page) (flat_map page_boundaries rest) (lines_on pages earlier page rest [] page.lines 1 on refl refl)
    (pages_on pages (earlier ++ page ∷ []) rest (on ∙ sym (append_assoc earlier (page ∷ []) rest)))

stops_on : (P : Boundary → Type 0) (before here : List Boundary) → AllByRecursion P here → AllByRecursion (λ (stop : Stop). P (boundary_of stop)) (stops_behind before here)
stops_on P before [] all = tt
stops_on P before (one ∷ more) all = (all.0, stops_on P (before ++ one ∷ []) more all.1)

each_stop_on : (pages : List Page) → AllByRecursion (λ (stop : Stop). (right : List ℕ) × StandsOnRight pages (boundary_of stop) right) (stops_of pages)
each_stop_on pages = stops_on (IsOn pages) [] (flat_map page_boundaries pages) (pages_on pages [] pages refl)

-- each boundary on whose right something stands is one of the pages'
boundaries : (before here : List Boundary) → map boundary_of (stops_behind before here) ≡ here
boundaries before [] = refl
boundaries before (one ∷ more) = ap (λ rest. one ∷ rest) (boundaries (before ++ one ∷ []) more)

first_one : {A : Type 0} (x : A) (xs : List A) → Contains (x ∷ xs) x
first_one x xs = (0, omega arith, refl)

behind_first : {A : Type 0} (x : A) (xs : List A) (y : A) → Contains xs y → Contains (x ∷ xs) y
behind_first x xs y is = Contains-append_right (x ∷ []) xs y is

in_run : (page place column more : ℕ) (from : Origin) (left right : List ℕ) (now behind : ℕ) → column + length left ≡ now → more + size left ≡ behind →
    Contains (run_boundaries page place column more from (left ++ right)) (boundary page place now (behind_start behind from))
in_run page place column more from [] [] now behind e f =
    let here : column ≡ now = omega (arith, e) in
    let there : more ≡ behind = omega (arith, f) in
    subst (Contains (run_boundaries page place column more from [])) (λ i. boundary page place (here i) (behind_start (there i) from)) (first_one (boundary page place column (behind_start more from)) [])
in_run page place column more from [] (c ∷ right) now behind e f =
    let here : column ≡ now = omega (arith, e) in
    let there : more ≡ behind = omega (arith, f) in
    subst (Contains (run_boundaries page place column more from (c ∷ right))) (λ i. boundary page place (here i) (behind_start (there i) from))
    (first_one (boundary page place column (behind_start more from)) (run_boundaries page place (column + 1) (more + length (encode_utf8 c)) from right))
in_run page place column more from (c ∷ left) right now behind e f =
    behind_first (boundary page place column (behind_start more from)) (run_boundaries page place (column + 1) (more + length (encode_utf8 c)) from (left ++ right)) (boundary page place now (behind_start behind from))
    (in_run page place (column + 1) (more + length (encode_utf8 c)) from left right now behind (omega (arith, e)) (omega (arith, f, length-append (encode_utf8 c) (encode_utf8_all left))))

in_parts : (page place column : ℕ) (before : List PartValue) (part : PartValue) (after : List PartValue) (left right : List ℕ) (now : ℕ) → shown_characters part ≡ left ++ right →
    column + length (flat_map shown_characters before ++ left) ≡ now →
    Contains (part_boundaries page place column (before ++ part ∷ after)) (boundary page place now (behind_start (part.start + size left) part.run.origin))
in_parts page place column [] part after left right now cut counted =
    Contains-append_left (run_boundaries page place column part.start part.run.origin (shown_characters part)) (part_boundaries page place (column + length (shown_characters part)) after)
    (boundary page place now (behind_start (part.start + size left) part.run.origin))
    (subst (λ t. Contains (run_boundaries page place column part.start part.run.origin t) (boundary page place now (behind_start (part.start + size left) part.run.origin))) (sym cut)
    (in_run page place column part.start part.run.origin left right now (part.start + size left) counted refl))
in_parts page place column (first ∷ before) part after left right now cut counted =
    let longer : length ((shown_characters first ++ flat_map shown_characters before) ++ left) ≡ length (shown_characters first) + length (flat_map shown_characters before ++ left) =
    ap length (append_assoc (shown_characters first) (flat_map shown_characters before) left) ∙ length-append (shown_characters first) (flat_map shown_characters before ++ left) in
    Contains-append_right (run_boundaries page place column first.start first.run.origin (shown_characters first)) (part_boundaries page place (column + length (shown_characters first)) (before ++ part ∷ after))
    (boundary page place now (behind_start (part.start + size left) part.run.origin))
    (in_parts page place (column + length (shown_characters first)) before part after left right now cut (omega (arith, counted, longer)))

in_lines : (page place : ℕ) (above : List Line) (line : Line) (below : List Line) (here : Boundary) → Contains (part_boundaries page (place + length above) 0 line.parts) here →
    Contains (line_boundaries page place (above ++ line ∷ below)) here
in_lines page place [] line below here is =
    Contains-append_left (part_boundaries page place 0 line.parts) (line_boundaries page (place + 1) below) here
    (let same : place + 0 ≡ place = omega arith in subst (λ n. Contains (part_boundaries page n 0 line.parts) here) same is)
in_lines page place (first ∷ above) line below here is =
    Contains-append_right (part_boundaries page place 0 first.parts) (line_boundaries page (place + 1) (above ++ line ∷ below)) here
    (in_lines page (place + 1) above line below here
    (let same : place + length (first ∷ above) ≡ place + 1 + length above = omega arith in subst (λ n. Contains (part_boundaries page n 0 line.parts) here) same is))

in_pages : (earlier : List Page) (page : Page) (later : List Page) (here : Boundary) → Contains (page_boundaries page) here → Contains (flat_map page_boundaries (earlier ++ page ∷ later)) here
in_pages [] page later here is = Contains-append_left (page_boundaries page) (flat_map page_boundaries later) here is
in_pages (first ∷ earlier) page later here is =
    Contains-append_right (page_boundaries first) (flat_map page_boundaries (earlier ++ page ∷ later)) here (in_pages earlier page later here is)

each_boundary_stops : (pages : List Page) (here : Boundary) (right : List ℕ) → StandsOnRight pages here right → Contains (map boundary_of (stops_of pages)) here
each_boundary_stops pages here right (line, on, goes) =
    let in_line : Contains (part_boundaries here.page here.line 0 line.parts) here =
    subst (λ parts. Contains (part_boundaries here.page here.line 0 parts) here) (sym goes.on)
    (subst (λ from. Contains (part_boundaries here.page here.line 0 (goes.before ++ goes.part ∷ goes.after)) (boundary here.page here.line here.column from)) goes.comes
    (in_parts here.page here.line 0 goes.before goes.part goes.after goes.left right here.column goes.cut (omega (arith, goes.counted)))) in
    let in_page : Contains (line_boundaries on.page.number 1 on.page.lines) here =
    subst (λ lines. Contains (line_boundaries on.page.number 1 lines) here) (sym on.among)
    (in_lines on.page.number 1 on.above line on.below here
    (let counted : here.line ≡ 1 + length on.above = omega (arith, on.counted) in
    subst (λ n. Contains (part_boundaries on.page.number n 0 line.parts) here) counted
    (subst (λ n. Contains (part_boundaries n here.line 0 line.parts) here) (sym on.numbered) in_line))) in
    subst (λ stops. Contains stops here) (sym (boundaries [] (flat_map page_boundaries pages)))
    (subst (λ all. Contains (flat_map page_boundaries all) here) (sym on.on) (in_pages on.earlier on.page on.later here in_page))

-- for the pages of a view
pub view_stands : (names : List NameParts) (style : StyleValue) (s : Source) (here : Boundary) (right : List ℕ) → StandsOnRight (view_pages names style s) here right → StandsThere s right here.origin
view_stands names style s here right on = right_stands s (view_pages names style s) here right (view_seen names style s) on

pub view_stop_on : (names : List NameParts) (style : StyleValue) (s : Source) →
    AllByRecursion (λ (stop : Stop). (right : List ℕ) × StandsOnRight (view_pages names style s) (boundary_of stop) right) (view_stops names style s)
unfolding view_stops
view_stop_on names style s = each_stop_on (view_pages names style s)

pub view_boundary_stops : (names : List NameParts) (style : StyleValue) (s : Source) (here : Boundary) (right : List ℕ) → StandsOnRight (view_pages names style s) here right →
    Contains (map boundary_of (view_stops names style s)) here
unfolding view_stops
view_boundary_stops names style s here right on = each_boundary_stops (view_pages names style s) here right on
