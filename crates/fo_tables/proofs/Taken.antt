-- From which row on each column is free, as the code keeps it.
use Rattle.std.proofs.Common.{◌≡◌, ◌≢◌, ◌⊎◌, ℕ, zero, suc, ◌+◌, ◌-◌, ◌<◌, ◌≤◌, Bool, true, false, cond, not, ◌&&◌, ◌||◌, leb, ltb, List, [], ◌∷◌, ◌++◌, length, get_or, set, take, replicate, refl, sym, ap, ◌∙◌, subst, inl, inr, arith, rules, tests}
use Rattle.std.specs.List.{fold, list_any}
use Rattle.std.proofs.lemmas.Bool.{cases_lt, cases_eq}
use Rattle.std.proofs.lemmas.Bool.Decides.{nat_tests}
use Rattle.std.proofs.lemmas.List.{get_or-set_same, get_or-set_other}
use Rattle.std.proofs.lemmas.List.Folds.{list_any-append}
use Rattle.fo_tables.specs.declared.cells.Span.{Span}
use Rattle.fo_tables.specs.declared.cells.GridCell.{GridCell}
use Rattle.fo_tables.specs.Cells.{is_within, covers, is_free, are_free, first_free, cut_span, with_cell}
use Rattle.fo_tables.specs.Taken.{AreTaken, IsSearched, IsFirstFit}
use Rattle.fo_tables.proofs.Free.{free_from, taken_from, still_taken, first_free_is, first_free-first}

leb_is : (a b : ℕ) → a ≤ b → leb a b ≡ true
leb_is a b le = grind (arith, nat_tests)

leb_not : (a b : ℕ) → b < a → leb a b ≡ false
leb_not a b lt = grind (arith, nat_tests)

-- ---- nothing is taken at first

pub none_taken : AreTaken [] [] 0
none_taken below column le = sym (leb_is 0 below (omega arith))

pub taken_below : (cells : List GridCell) (until : List ℕ) (row : ℕ) → AreTaken cells until row → AreTaken cells until (row + 1)
taken_below cells until row taken below column le = taken below column (omega arith)

-- ---- one cell more

and_false : (a : Bool) → (a && false) ≡ false
and_false true = refl
and_false false = refl

one_more : (a c : Bool) (row height below old now : ℕ) → row ≤ below → not a ≡ leb old below → now ≡ cond c (row + height) old → (c ≡ true → old ≤ row) →
    not (a || (((leb row below && ltb below (row + height)) && c) || false)) ≡ leb now below
one_more true true row height below old now le is now_is free =
    let low : old ≤ row = free refl in
    absurd (true_is_false (sym (leb_is old below (omega arith)) ∙ sym is))
  where
    true_is_false : true ≡ false → ⊥
    true_is_false e = cc
one_more true false row height below old now le is now_is free = is ∙ ap (λ n. leb n below) (sym now_is)
one_more false false row height below old now le is now_is free =
    ap (λ b. not (b || false)) (and_false (leb row below && ltb below (row + height))) ∙ (is ∙ ap (λ n. leb n below) (sym now_is))
one_more false true row height below old now le is now_is free =
    rw (leb_is row below le) (at_end ∙ ap (λ n. leb n below) (sym now_is))
  where
    at_end : not ((ltb below (row + height) && true) || false) ≡ leb (row + height) below
    at_end = grind (arith, nat_tests)

pub taken_more : (cells : List GridCell) (until later : List ℕ) (cell : GridCell) → AreTaken cells until cell.row →
    ((k : ℕ) → cell.column ≤ k → k < cell.column + cell.span.columns → get_or until k 0 ≤ cell.row) →
    ((k : ℕ) → get_or later k 0 ≡ cond (is_within cell.column cell.span.columns k) (cell.row + cell.span.rows) (get_or until k 0)) →
    AreTaken (cells ++ cell ∷ []) later cell.row
taken_more cells until later cell taken free is below k le =
    ap not (list_any-append (covers below k) cells (cell ∷ []))
    ∙ one_more (list_any (covers below k) cells) (is_within cell.column cell.span.columns k) cell.row cell.span.rows below (get_or until k 0) (get_or later k 0) le (taken below k le) (is k)
    (λ within. free k (from_within cell.column cell.span.columns k within) (before_end cell.column cell.span.columns k within))
  where
    from_within : (first count n : ℕ) → is_within first count n ≡ true → first ≤ n
    from_within first count n e = grind (arith, nat_tests)

    before_end : (first count n : ℕ) → is_within first count n ≡ true → n < first + count
    before_end first count n e = grind (arith, nat_tests)

-- ---- the first fit is the first free place

fits_not : (cells : List GridCell) (until : List ℕ) (row count from found : ℕ) → AreTaken cells until row → ((start : ℕ) → start < from → are_free cells row count start ≡ false) → IsFirstFit until row from count found →
    (start : ℕ) → start < found → are_free cells row count start ≡ false
fits_not cells until row count from found taken searched fit start before =
    elim (cases_lt start from) [
      | inl passed ↦ searched start passed
      | inr le ↦
          let there = fit.first start le before in
          taken_from cells row count start there.0 there.1 there.2 (taken row there.0 (omega arith) ∙ leb_not (get_or until there.0 0) row there.3)
    ]

pub fit_is_first : (cells : List GridCell) (until : List ℕ) (row count from found : ℕ) → AreTaken cells until row → ((start : ℕ) → start < from → are_free cells row count start ≡ false) → IsFirstFit until row from count found →
    first_free cells row count ≡ found
fit_is_first cells until row count from found taken searched fit =
    first_free_is cells row count found
    (free_from cells row count found (λ k le lt. taken row k (omega arith) ∙ leb_is (get_or until k 0) row (fit.free k le lt)))
    (fits_not cells until row count from found taken searched fit)

-- ---- a cell is placed

pub placed_column : (cells : List GridCell) (until : List ℕ) (row rows_left from column : ℕ) (span cut : Span) → cut ≡ cut_span rows_left span → AreTaken cells until row → ((start : ℕ) → start < from → are_free cells row span.columns start ≡ false) → IsFirstFit until row from cut.columns column →
    column ≡ first_free cells row span.columns
placed_column cells until row rows_left from column span cut is taken searched fit =
    sym (fit_is_first cells until row span.columns from column taken searched (subst (λ (one : Span). IsFirstFit until row from one.columns column) is fit))

pub placed_cells : (cells later : List GridCell) (row rows_left column : ℕ) (span cut : Span) → cut ≡ cut_span rows_left span → column ≡ first_free cells row span.columns → later ≡ cells ++ record { row = row; column = column; span = cut } ∷ [] →
    later ≡ with_cell rows_left row cells span
placed_cells cells later row rows_left column span cut is first more = more ∙ (λ i. cells ++ one (first i) (is i) ∷ [])
  where
    one : ℕ → Span → GridCell
    one c s = record { row = row; column = c; span = s }

pub placed_taken : (cells later : List GridCell) (until after : List ℕ) (row from column : ℕ) (cut : Span) → AreTaken cells until row → IsFirstFit until row from cut.columns column →
    ((k : ℕ) → get_or after k 0 ≡ cond (is_within column cut.columns k) (row + cut.rows) (get_or until k 0)) → later ≡ cells ++ record { row = row; column = column; span = cut } ∷ [] →
    AreTaken later after row
placed_taken cells later until after row from column cut taken fit is more =
    subst (λ (all : List GridCell). AreTaken all after row) (sym more)
    (taken_more cells until after (record { row = row; column = column; span = cut }) taken (λ k le lt. fit.free k le lt) is)

-- ---- how far a row has been searched

pub searched_more : (cells later : List GridCell) (row rows_left : ℕ) (span : Span) (searched : List ℕ) (found : ℕ) → IsSearched cells row searched → span.columns < length searched → found ≡ first_free cells row span.columns → later ≡ with_cell rows_left row cells span →
    IsSearched later row (set searched span.columns found)
searched_more cells later row rows_left span searched found before within first more other start lt =
    subst (λ (all : List GridCell). are_free all row other start ≡ false) (sym more)
    (still_taken cells (record { row = row; column = first_free cells row span.columns; span = cut_span rows_left span } ∷ []) row other start
    (elim (cases_eq other span.columns) [
      | inl same ↦
          subst (λ n. are_free cells row n start ≡ false) (sym same)
          (first_free-first cells row span.columns start
          (subst (λ n. start < n) (get_or-set_same searched span.columns found 0 within ∙ first) (subst (λ n. start < get_or (set searched span.columns found) n 0) same lt)))
      | inr apart ↦ before other start (subst (λ n. start < n) (get_or-set_other searched span.columns other found 0 apart) lt)
    ]))

pub reach_more : (searched : List ℕ) (place found before after : ℕ) → ((count : ℕ) → get_or searched count 0 ≤ before) → before ≤ after → found ≤ after → place < length searched → (count : ℕ) → get_or (set searched place found) count 0 ≤ after
reach_more searched place found before after reach le fits within count =
    elim (cases_eq count place) [
      | inl same ↦ subst (λ n. get_or (set searched place found) n 0 ≤ after) (sym same) (subst (λ n. n ≤ after) (sym (get_or-set_same searched place found 0 within)) fits)
      | inr apart ↦ let old : get_or searched count 0 ≤ before = reach count in subst (λ n. n ≤ after) (sym (get_or-set_other searched place count found 0 apart)) (omega arith)
    ]

pub none_searched : (cells : List GridCell) (row : ℕ) (searched : List ℕ) → ((count : ℕ) → get_or searched count 0 ≡ 0) → IsSearched cells row searched
none_searched cells row searched zeros count start lt = absurd (omega (arith, zeros count))

abbrev pub zeros : ℕ → List ℕ
zeros n = replicate n 0

pub all_zero : (n place : ℕ) → get_or (zeros n) place 0 ≡ 0
all_zero zero place = refl
all_zero (suc n) zero = refl
all_zero (suc n) (suc place) = all_zero n place

-- ---- a search that goes on

pub free_more : (until : List ℕ) (row first column : ℕ) → ((k : ℕ) → first ≤ k → k < column → get_or until k 0 ≤ row) → get_or until column 0 ≤ row → (k : ℕ) → first ≤ k → k < column + 1 → get_or until k 0 ≤ row
free_more until row first column so_far here k le lt =
    elim (cases_lt k column) [
      | inl before ↦ so_far k le before
      | inr past ↦ let same : column ≡ k = omega arith in subst (λ n. get_or until n 0 ≤ row) same here
    ]

pub past_one : (until : List ℕ) (row from first count column : ℕ) →
    ((start : ℕ) → from ≤ start → start < first → (k : ℕ) × (start ≤ k) × (k < start + count) × (row < get_or until k 0)) → column < first + count → row < get_or until column 0 →
    (start : ℕ) → from ≤ start → start < column + 1 → (k : ℕ) × (start ≤ k) × (k < start + count) × (row < get_or until k 0)
past_one until row from first count column so_far near taken start le lt =
    elim (cases_lt start first) [
      | inl before ↦ so_far start le before
      | inr past ↦ (column, omega arith, omega arith, taken)
    ]
