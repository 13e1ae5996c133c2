-- What holds of each grid.
use Rattle.std.proofs.Common.{◌≡◌, ◌⊎◌, ℕ, zero, suc, ◌+◌, ◌-◌, ◌<◌, ◌≤◌, min, Bool, true, false, cond, not, ◌&&◌, ◌||◌, leb, ltb, List, [], ◌∷◌, ◌++◌, length, map, take, get_or, refl, sym, ap, ◌∙◌, subst, inl, inr, arith, rules, tests, append_assoc, append-nil}
use Rattle.std.specs.List.{All, fold, list_any, sum_by, count_by}
use Rattle.std.proofs.lemmas.Bool.{cases_lt, not-true, false_from_ne_true}
use Rattle.std.proofs.lemmas.Bool.Decides.{nat_tests}
use Rattle.std.proofs.lemmas.List.{map_push, length-append, length_push, take_at, take-append-le, get_or_append_left, get_or_at}
use Rattle.std.proofs.lemmas.List.Sums.{sum_by-cons, sum_by_push}
use Rattle.std.proofs.lemmas.List.Elements.{All-nil, All-head, All-tail, All-push, All-weaker}
use Rattle.fo_tables.specs.declared.cells.Span.{Span}
use Rattle.fo_tables.specs.declared.cells.GridCell.{GridCell}
use Rattle.fo_tables.specs.Cells.{IsSpan, is_within, covers, is_free, are_free, first_free, cut_span, with_cell, with_rows, grid_of, IsFirstFree, spans_from}
use Rattle.fo_tables.proofs.Free.{free_at, free_from, taken_from, first_free-free, first_free-first}

-- ---- what each cell keeps, a grid has

row_keeps : (P : List GridCell → Type 0) (rows_left row : ℕ) → ((cells : List GridCell) (span : Span) → P cells → P (with_cell rows_left row cells span)) →
    (spans : List Span) (cells : List GridCell) → P cells → P (fold (with_cell rows_left row) cells spans)
row_keeps P rows_left row step [] cells so_far = so_far
row_keeps P rows_left row step (span ∷ spans) cells so_far = row_keeps P rows_left row step spans (with_cell rows_left row cells span) (step cells span so_far)

rows_keep : (P : ℕ → List GridCell → Type 0) → ((rows_left row : ℕ) (cells : List GridCell) (span : Span) → P row cells → P row (with_cell rows_left row cells span)) → ((row : ℕ) (cells : List GridCell) → P row cells → P (row + 1) cells) →
    (rows : List (List Span)) (row : ℕ) (cells : List GridCell) → P row cells → (last : ℕ) × P last (with_rows row cells rows)
rows_keep P step below [] row cells so_far = (row, so_far)
rows_keep P step below (spans ∷ rows) row cells so_far =
    rows_keep P step below rows (row + 1) (fold (with_cell (length rows + 1) row) cells spans)
    (below row (fold (with_cell (length rows + 1) row) cells spans) (row_keeps (P row) (length rows + 1) row (step (length rows + 1) row) spans cells so_far))

-- ---- the first free place

not_both : {b : Bool} → b ≡ true → b ≡ false → ⊥
not_both p q = cc

-- where several columns are not all free, one of them is taken
taken_one : (cells : List GridCell) (row count column : ℕ) → are_free cells row count column ≡ false → (k : ℕ) × (column ≤ k) × (k < column + count) × (is_free cells row k ≡ false)
taken_one cells row zero column taken = absurd (not_both refl taken)
taken_one cells row (suc count) column taken =
    by_last (are_free cells row count column) (is_free cells row (column + count)) refl (λ before. taken_one cells row count column before) taken
  where
    by_last : (a b : Bool) → is_free cells row (column + count) ≡ b → (a ≡ false → (k : ℕ) × (column ≤ k) × (k < column + count) × (is_free cells row k ≡ false)) → (a && b) ≡ false →
        (k : ℕ) × (column ≤ k) × (k < column + suc count) × (is_free cells row k ≡ false)
    by_last false b same before e = let there = before refl in (there.0, there.1, omega (arith, there.2), there.3)
    by_last true b same before e = (column + count, omega arith, omega arith, same ∙ e)

pub record EachFirstFree (cells : List GridCell) : Type 0 where
  pub each : (k : ℕ) (d : GridCell) → k < length cells → IsFirstFree (take k cells) (get_or cells k d)

stands : (cells : List GridCell) (rows_left row : ℕ) (span : Span) → IsFirstFree cells (record { row = row; column = first_free cells row span.columns; span = cut_span rows_left span })
stands cells rows_left row span = record {
  free = λ column le lt. free_at cells row span.columns (first_free cells row span.columns) column (first_free-free cells row span.columns) le lt;
  first = λ start before. taken_one cells row span.columns start (first_free-first cells row span.columns start before);
}

first_push : (cells : List GridCell) (cell : GridCell) → EachFirstFree cells → IsFirstFree cells cell → EachFirstFree (cells ++ cell ∷ [])
first_push cells cell so_far new = record { each = λ k d below. at_place k d below (cases_lt k (length cells)) }
  where
    at_place : (k : ℕ) (d : GridCell) → k < length (cells ++ cell ∷ []) → (k < length cells) ⊎ (length cells ≤ k) → IsFirstFree (take k (cells ++ cell ∷ [])) (get_or (cells ++ cell ∷ []) k d)
    at_place k d below (inl old) =
        subst (λ (before : List GridCell). IsFirstFree before (get_or (cells ++ cell ∷ []) k d)) (sym (take-append-le k cells (cell ∷ []) (omega arith)))
        (subst (λ (one : GridCell). IsFirstFree (take k cells) one) (sym (get_or_append_left cells (cell ∷ []) d k old)) (so_far.each k d old))
    at_place k d below (inr past) =
        let same : length cells ≡ k = omega (arith, length_push cells cell) in
        subst (λ (before : List GridCell). IsFirstFree before (get_or (cells ++ cell ∷ []) k d)) (sym (take_at cells (cell ∷ []) k same))
        (subst (λ (one : GridCell). IsFirstFree cells one) (sym (get_or_at cells cell [] d k same)) new)

all_first_free : (rows : List (List Span)) → EachFirstFree (grid_of rows)
all_first_free rows =
    (rows_keep (λ row cells. EachFirstFree cells)
    (λ rows_left row cells span so_far. first_push cells _ so_far (stands cells rows_left row span))
    (λ row cells so_far. so_far)
    rows 0 [] (record { each = λ k d below. absurd (omega arith) })).1

pub first_free_each : (rows : List (List Span)) (before after : List GridCell) (cell : GridCell) → grid_of rows ≡ before ++ cell ∷ after → IsFirstFree before cell
first_free_each rows before after cell e =
    let all : EachFirstFree (before ++ cell ∷ after) = subst EachFirstFree e (all_first_free rows) in
    let long : length (before ++ cell ∷ after) ≡ length before + suc (length after) = length-append before (cell ∷ after) in
    let there : IsFirstFree (take (length before) (before ++ cell ∷ after)) (get_or (before ++ cell ∷ after) (length before) cell) = all.each (length before) cell (omega arith) in
    subst (λ (front : List GridCell). IsFirstFree front cell) (take_at before (cell ∷ after) (length before) refl)
    (subst (λ (one : GridCell). IsFirstFree (take (length before) (before ++ cell ∷ after)) one) (get_or_at before cell after cell (length before) refl) there)

-- ---- no place twice

pub record IsApart (row : ℕ) (cells : List GridCell) : Type 0 where
  pub above : All (λ cell. cell.row ≤ row) cells
  pub once : (below column : ℕ) → count_by (covers below column) cells ≤ 1

-- a cell that begins above a row and covers a place below it covers the row too
not_below : (row below column : ℕ) (cell : GridCell) → cell.row ≤ row → row ≤ below → covers row column cell ≡ false → covers below column cell ≡ false
not_below row below column cell above le free = plain cell.row cell.span.rows (is_within cell.column cell.span.columns column) above free
  where
    plain : (first rows : ℕ) (c : Bool) → first ≤ row → ((leb first row && ltb row (first + rows)) && c) ≡ false → ((leb first below && ltb below (first + rows)) && c) ≡ false
    plain first rows true above free = grind (arith, nat_tests)
    plain first rows false above free = grind (arith, nat_tests)

or_left : (a b : Bool) → (a || b) ≡ false → a ≡ false
or_left true b e = e
or_left false b e = refl

or_right : (a b : Bool) → (a || b) ≡ false → b ≡ false
or_right true b e = absurd (cc)
or_right false b e = e

none_counted : (row below column : ℕ) (cells : List GridCell) → All (λ cell. cell.row ≤ row) cells → row ≤ below → list_any (covers row column) cells ≡ false → count_by (covers below column) cells ≡ 0
none_counted row below column [] above le free = refl
none_counted row below column (cell ∷ cells) above le free =
    sum_by-cons (λ c. cond (covers below column c) 1 0) cell cells
    ∙ (λ i. cond (not_below row below column cell (All-head (λ c. c.row ≤ row) cell cells above) le (or_left (covers row column cell) (list_any (covers row column) cells) free) i) 1 0
    + none_counted row below column cells (All-tail (λ c. c.row ≤ row) cell cells above) le (or_right (covers row column cell) (list_any (covers row column) cells) free) i)

apart_push : (row : ℕ) (cells : List GridCell) (cell : GridCell) → cell.row ≡ row → IsApart row cells → IsFirstFree cells cell → IsApart row (cells ++ cell ∷ [])
apart_push row cells cell here so_far first = record {
  above = All-push (λ c. c.row ≤ row) cells cell so_far.above (omega arith);
  once = λ below column.
      let all : count_by (covers below column) (cells ++ cell ∷ []) ≡ count_by (covers below column) cells + cond (covers below column cell) 1 0 = sum_by_push (λ c. cond (covers below column c) 1 0) cells cell in
      let old : count_by (covers below column) cells ≤ 1 = so_far.once below column in
      one_at_most (covers below column cell) _ _ all old (λ covered. none_there below column covered);
}
  where
    one_at_most : (b : Bool) (all old : ℕ) → all ≡ old + cond b 1 0 → old ≤ 1 → (b ≡ true → old ≡ 0) → all ≤ 1
    one_at_most true all old e le none = let none_yet : old ≡ 0 = none refl in omega arith
    one_at_most false all old e le none = omega arith

    in_rows : (first rows n : ℕ) (c : Bool) → ((leb first n && ltb n (first + rows)) && c) ≡ true → first ≤ n
    in_rows first rows n c e = grind (arith, nat_tests)

    from_column : (a : Bool) (first columns n : ℕ) → (a && (leb first n && ltb n (first + columns))) ≡ true → first ≤ n
    from_column a first columns n e = grind (arith, nat_tests)

    before_column : (a : Bool) (first columns n : ℕ) → (a && (leb first n && ltb n (first + columns))) ≡ true → n < first + columns
    before_column a first columns n e = grind (arith, nat_tests)

    none_there : (below column : ℕ) → covers below column cell ≡ true → count_by (covers below column) cells ≡ 0
    none_there below column covered =
        let under : cell.row ≤ below = in_rows cell.row cell.span.rows below (is_within cell.column cell.span.columns column) covered in
        let le : row ≤ below = omega arith in
        let free : is_free cells cell.row column ≡ true =
        first.free column (from_column (is_within cell.row cell.span.rows below) cell.column cell.span.columns column covered) (before_column (is_within cell.row cell.span.rows below) cell.column cell.span.columns column covered) in
        let none : list_any (covers row column) cells ≡ false = subst (λ n. list_any (covers n column) cells ≡ false) here (not-true (list_any (covers cell.row column) cells) free) in
        none_counted row below column cells so_far.above le none

pub once_covered : (rows : List (List Span)) (row column : ℕ) → count_by (covers row column) (grid_of rows) ≤ 1
once_covered rows row column =
    (rows_keep IsApart
    (λ rows_left row cells span so_far. apart_push row cells _ refl so_far (stands cells rows_left row span))
    (λ row cells so_far. record { above = All-weaker (λ c. c.row ≤ row) (λ c. c.row ≤ row + 1) (λ c le. omega arith) cells so_far.above; once = so_far.once })
    rows 0 [] (record { above = All-nil (λ c. c.row ≤ 0); once = λ below column. omega arith })).1.once row column

-- ---- the cells of the rows

abbrev row_and_span : GridCell → ℕ × Span
row_and_span cell = (cell.row, cell.span)

row_spans : (rows_left row : ℕ) (spans : List Span) (cells : List GridCell) → map row_and_span (fold (with_cell rows_left row) cells spans) ≡ map row_and_span cells ++ map (λ span. (row, cut_span rows_left span)) spans
row_spans rows_left row [] cells = sym (append-nil (map row_and_span cells))
row_spans rows_left row (span ∷ spans) cells =
    row_spans rows_left row spans (with_cell rows_left row cells span)
    ∙ (ap (λ front. front ++ map (λ s. (row, cut_span rows_left s)) spans) (map_push row_and_span cells (record { row = row; column = first_free cells row span.columns; span = cut_span rows_left span }))
    ∙ append_assoc (map row_and_span cells) ((row, cut_span rows_left span) ∷ []) (map (λ s. (row, cut_span rows_left s)) spans))

rows_spans : (rows : List (List Span)) (row : ℕ) (cells : List GridCell) → map row_and_span (with_rows row cells rows) ≡ map row_and_span cells ++ spans_from row rows
rows_spans [] row cells = sym (append-nil (map row_and_span cells))
rows_spans (spans ∷ rows) row cells =
    rows_spans rows (row + 1) (fold (with_cell (length rows + 1) row) cells spans)
    ∙ (ap (λ front. front ++ spans_from (row + 1) rows) (row_spans (length rows + 1) row spans cells)
    ∙ append_assoc (map row_and_span cells) (map (λ s. (row, cut_span (length rows + 1) s)) spans) (spans_from (row + 1) rows))

pub same_spans : (rows : List (List Span)) → map row_and_span (grid_of rows) ≡ spans_from 0 rows
same_spans rows = rows_spans rows 0 []

-- ---- the end of the part

abbrev Ends : ℕ → GridCell → Type 0
Ends rows cell = IsSpan cell.span × (cell.row + cell.span.rows ≤ rows)

cut_is : (span : Span) (rows_left : ℕ) → IsSpan span → 1 ≤ rows_left → IsSpan (cut_span rows_left span)
cut_is span rows_left is some = record { some_columns = is.some_columns; most_columns = is.most_columns; some_rows = least span.rows is.some_rows; most_rows = most span.rows is.most_rows }
  where
    least : (n : ℕ) → 1 ≤ n → 1 ≤ min n rows_left
    least n le = omega arith

    most : (n : ℕ) → n ≤ 100 → min n rows_left ≤ 100
    most n le = omega arith

row_ends : (total rows_left row : ℕ) → row + rows_left ≡ total → 1 ≤ rows_left → (spans : List Span) (cells : List GridCell) → All IsSpan spans → All (Ends total) cells → All (Ends total) (fold (with_cell rows_left row) cells spans)
row_ends total rows_left row sum some [] cells are so_far = so_far
row_ends total rows_left row sum some (span ∷ spans) cells are so_far =
    row_ends total rows_left row sum some spans (with_cell rows_left row cells span) (All-tail IsSpan span spans are)
    (All-push (Ends total) cells _ so_far (cut_is span rows_left (All-head IsSpan span spans are) some, at_end span.rows))
  where
    at_end : (n : ℕ) → row + min n rows_left ≤ total
    at_end n = omega arith

rows_end : (total : ℕ) (rows : List (List Span)) (row : ℕ) (cells : List GridCell) → row + length rows ≡ total → All (λ spans. All IsSpan spans) rows → All (Ends total) cells → All (Ends total) (with_rows row cells rows)
rows_end total [] row cells sum are so_far = so_far
rows_end total (spans ∷ rows) row cells sum are so_far =
    rows_end total rows (row + 1) (fold (with_cell (length rows + 1) row) cells spans) (omega arith) (All-tail (λ s. All IsSpan s) spans rows are)
    (row_ends total (length rows + 1) row (omega arith) (omega arith) spans cells (All-head (λ s. All IsSpan s) spans rows are) so_far)

pub within_part : (rows : List (List Span)) → All (λ spans. All IsSpan spans) rows → All (Ends (length rows)) (grid_of rows)
within_part rows are = rows_end (length rows) rows 0 [] (omega arith) are (All-nil (Ends (length rows)))
