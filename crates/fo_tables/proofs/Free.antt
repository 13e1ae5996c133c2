-- Which places of a grid are free.
use Rattle.std.proofs.Common.{◌≡◌, ◌⊎◌, ℕ, zero, suc, ◌+◌, ◌-◌, ◌<◌, ◌≤◌, max, Bool, true, false, cond, not, ◌&&◌, ◌||◌, leb, ltb, List, [], ◌∷◌, ◌++◌, length, map, get_or, refl, sym, ap, ◌∙◌, subst, inl, inr, arith, rules, tests}
use Rattle.std.specs.List.{All, fold, list_any, position_or_len, range_with_len}
use Rattle.std.proofs.lemmas.Bool.{cases_lt, false_from_ne_true, not-true}
use Rattle.std.proofs.lemmas.Bool.Decides.{nat_tests}
use Rattle.std.proofs.lemmas.List.FromFn.{length-range_with_len, get_or-range_with_len}
use Rattle.std.proofs.lemmas.List.Folds.{list_any-append}
use Rattle.std.proofs.lemmas.List.Sums.{position_or_len_is, fails_before_first, passes_at_first, prefix_len-le-length}
use Rattle.fo_tables.specs.declared.cells.GridCell.{GridCell}
use Rattle.fo_tables.specs.Cells.{is_within, covers, is_free, are_free, columns_of, first_free}

-- ---- tests

pub both_left : (a b : Bool) → (a && b) ≡ true → a ≡ true
both_left true b e = refl
both_left false b e = e

pub both_right : (a b : Bool) → (a && b) ≡ true → b ≡ true
both_right true b e = e
both_right false b e = absurd (cc)

pub both : (a b : Bool) → a ≡ true → b ≡ true → (a && b) ≡ true
both a b p q = rw p q

neither_left : (a b : Bool) → not (a || b) ≡ true → not a ≡ true
neither_left true b e = e
neither_left false b e = refl

apart : {b : Bool} → b ≡ true → b ≡ false → ⊥
apart p q = cc

-- ---- several columns that are free

pub free_at : (cells : List GridCell) (row count column k : ℕ) → are_free cells row count column ≡ true → column ≤ k → k < column + count → is_free cells row k ≡ true
free_at cells row zero column k are le lt = absurd (omega arith)
free_at cells row (suc count) column k are le lt =
    elim (cases_lt k (column + count)) [
      | inl before ↦ free_at cells row count column k (both_left (are_free cells row count column) (is_free cells row (column + count)) are) le before
      | inr behind ↦
          let same : column + count ≡ k = omega arith in
          subst (λ n. is_free cells row n ≡ true) same (both_right (are_free cells row count column) (is_free cells row (column + count)) are)
    ]

pub free_from : (cells : List GridCell) (row count column : ℕ) → ((k : ℕ) → column ≤ k → k < column + count → is_free cells row k ≡ true) → are_free cells row count column ≡ true
free_from cells row zero column each = refl
free_from cells row (suc count) column each =
    both (are_free cells row count column) (is_free cells row (column + count))
    (free_from cells row count column (λ k le lt. each k le (omega arith)))
    (each (column + count) (omega arith) (omega arith))

pub taken_from : (cells : List GridCell) (row count column k : ℕ) → column ≤ k → k < column + count → is_free cells row k ≡ false → are_free cells row count column ≡ false
taken_from cells row count column k le lt taken = false_from_ne_true (are_free cells row count column) (λ are. apart (free_at cells row count column k are le lt) taken)

-- ---- more cells

pub free_before : (cells more : List GridCell) (row k : ℕ) → is_free (cells ++ more) row k ≡ true → is_free cells row k ≡ true
free_before cells more row k free =
    neither_left (list_any (covers row k) cells) (list_any (covers row k) more) (sym (ap not (list_any-append (covers row k) cells more)) ∙ free)

pub still_taken : (cells more : List GridCell) (row count column : ℕ) → are_free cells row count column ≡ false → are_free (cells ++ more) row count column ≡ false
still_taken cells more row count column taken =
    false_from_ne_true (are_free (cells ++ more) row count column)
    (λ are. apart (free_from cells row count column (λ k le lt. free_before cells more row k (free_at (cells ++ more) row count column k are le lt))) taken)

-- ---- behind all cells

pub fold_max-ge : (sizes : List ℕ) (a : ℕ) → a ≤ fold max a sizes
fold_max-ge [] a = omega arith
fold_max-ge (size ∷ sizes) a = let more : max a size ≤ fold max (max a size) sizes = fold_max-ge sizes (max a size) in omega arith

outside : (row column : ℕ) (cell : GridCell) → cell.column + cell.span.columns ≤ column → covers row column cell ≡ false
outside row column cell past = at_end (is_within cell.row cell.span.rows row) (leb cell.column column) (ltb column (cell.column + cell.span.columns)) (grind (arith, nat_tests))
  where
    at_end : (a b c : Bool) → c ≡ false → (a && (b && c)) ≡ false
    at_end true true c e = e
    at_end true false c e = refl
    at_end false b c e = refl

none_covers : (row column : ℕ) (cells : List GridCell) (a : ℕ) → fold max a (map (λ cell. cell.column + cell.span.columns) cells) ≤ column → list_any (covers row column) cells ≡ false
none_covers row column [] a past = refl
none_covers row column (cell ∷ cells) a past =
    let end : ℕ = cell.column + cell.span.columns in
    let more : max a end ≤ fold max (max a end) (map (λ c. c.column + c.span.columns) cells) = fold_max-ge (map (λ c. c.column + c.span.columns) cells) (max a end) in
    let first : covers row column cell ≡ false = outside row column cell (omega arith) in
    rw first (none_covers row column cells (max a end) past)

pub free_behind : (cells : List GridCell) (row column : ℕ) → columns_of cells ≤ column → is_free cells row column ≡ true
free_behind cells row column past = ap not (none_covers row column cells 0 past)

pub all_free_behind : (cells : List GridCell) (row count column : ℕ) → columns_of cells ≤ column → are_free cells row count column ≡ true
all_free_behind cells row count column past = free_from cells row count column (λ k le lt. free_behind cells row k (omega arith))

-- ---- the first place

pub first_free_is : (cells : List GridCell) (row count found : ℕ) → are_free cells row count found ≡ true → ((start : ℕ) → start < found → are_free cells row count start ≡ false) → first_free cells row count ≡ found
first_free_is cells row count found free first =
    let n : ℕ = columns_of cells in
    let within : found ≤ n = elim (cases_lt n found) [
      | inl past ↦ absurd (apart (all_free_behind cells row count n (omega arith)) (first n past))
      | inr le ↦ le
    ] in
    let long : length (range_with_len 0 n) ≡ n = length-range_with_len 0 n in
    position_or_len_is (are_free cells row count) (range_with_len 0 n) found 0 (omega arith)
    (λ k below. ap (are_free cells row count) (get_or-range_with_len 0 n k 0 (omega arith) ∙ zero_first k) ∙ first k below)
    (λ below. ap (are_free cells row count) (get_or-range_with_len 0 n found 0 (omega arith) ∙ zero_first found) ∙ free)
  where
    zero_first : (k : ℕ) → 0 + k ≡ k
    zero_first k = omega arith

pub first_free-free : (cells : List GridCell) (row count : ℕ) → are_free cells row count (first_free cells row count) ≡ true
first_free-free cells row count =
    let n : ℕ = columns_of cells in
    let found : ℕ = first_free cells row count in
    let long : length (range_with_len 0 n) ≡ n = length-range_with_len 0 n in
    elim (cases_lt found n) [
      | inl below ↦
          sym (ap (are_free cells row count) (get_or-range_with_len 0 n found 0 below ∙ zero_first found))
          ∙ passes_at_first (are_free cells row count) (range_with_len 0 n) 0 (omega arith)
      | inr past ↦ all_free_behind cells row count found past
    ]
  where
    zero_first : (k : ℕ) → 0 + k ≡ k
    zero_first k = omega arith

pub first_free-first : (cells : List GridCell) (row count start : ℕ) → start < first_free cells row count → are_free cells row count start ≡ false
first_free-first cells row count start before =
    let n : ℕ = columns_of cells in
    let long : length (range_with_len 0 n) ≡ n = length-range_with_len 0 n in
    let within : first_free cells row count ≤ length (range_with_len 0 n) = prefix_len-le-length (λ column. not (are_free cells row count column)) (range_with_len 0 n) in
    sym (ap (are_free cells row count) (get_or-range_with_len 0 n start 0 (omega arith) ∙ zero_first start))
    ∙ fails_before_first (are_free cells row count) (range_with_len 0 n) start 0 before
  where
    zero_first : (k : ℕ) → 0 + k ≡ k
    zero_first k = omega arith
