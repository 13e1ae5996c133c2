-- What holds of the heights of rows, and how the code keeps what their cells need.
use Rattle.std.proofs.Common.{◌≡◌, ◌⊎◌, ℕ, zero, suc, ◌+◌, ◌-◌, ◌<◌, ◌≤◌, min, max, Bool, true, false, cond, eqb, ℤ, pos, negsuc, List, [], ◌∷◌, ◌++◌, length, map, take, drop, get_or, refl, sym, ap, ◌∙◌, subst, inl, inr, arith, rules, tests}
use Rattle.std.specs.List.{All, fold, filter, sum, sum_by}
use Rattle.std.proofs.lemmas.Bool.{cases_lt, eqb-true}
use Rattle.std.proofs.lemmas.Bool.Decides.{nat_tests}
use Rattle.std.proofs.lemmas.List.{length_push, take-append-le, take_all, take_more, drop-append-le, drop-take, get_or_push, get_or-append_right, get_or_append_left}
use Rattle.std.proofs.lemmas.List.Sums.{sum_by-cons, sum_by_push}
use Rattle.std.proofs.lemmas.List.Elements.{All-nil, All-cons, All-head, All-tail, All-weaker, All-map, All-filter}
use Rattle.fo_tables.specs.declared.cells.GridCell.{GridCell}
use Rattle.fo_tables.specs.declared.heights.Need.{Need}
use Rattle.fo_tables.specs.Sizes.{most, natural, size}
use Rattle.fo_tables.specs.Heights.{TallCell, ends_in, beyond, greatest, row_height, with_row, heights_of, IsHighEnough, SpansSome}
use Rattle.fo_tables.specs.Needs.{need_of, still_needed}
use Rattle.fo_tables.proofs.Free.{fold_max-ge}

-- ---- the greatest of some

-- by the test of the first one
ge_first : (f : TallCell → ℕ) (p : TallCell → Bool) (tall : TallCell) (cells : List TallCell) (a : ℕ) (b : Bool) → p tall ≡ b →
    ((from : ℕ) → All (λ one. p one ≡ true → f one ≤ fold max from (map f (filter p cells))) cells) →
    All (λ one. p one ≡ true → f one ≤ fold max a (map f (cond b (tall ∷ filter p cells) (filter p cells)))) (tall ∷ cells)
ge_first f p tall cells a true is behind =
    let more : max a (f tall) ≤ fold max (max a (f tall)) (map f (filter p cells)) = fold_max-ge (map f (filter p cells)) (max a (f tall)) in
    All-cons (λ one. p one ≡ true → f one ≤ fold max (max a (f tall)) (map f (filter p cells))) tall cells (λ e. omega arith) (behind (max a (f tall)))
ge_first f p tall cells a false is behind =
    All-cons (λ one. p one ≡ true → f one ≤ fold max a (map f (filter p cells))) tall cells (λ e. absurd (not_both e is)) (behind a)
  where
    not_both : p tall ≡ true → p tall ≡ false → ⊥
    not_both e g = cc

ge_each : (f : TallCell → ℕ) (p : TallCell → Bool) (cells : List TallCell) (a : ℕ) → All (λ tall. p tall ≡ true → f tall ≤ fold max a (map f (filter p cells))) cells
ge_each f p [] a = All-nil (λ tall. p tall ≡ true → f tall ≤ a)
ge_each f p (tall ∷ cells) a = ge_first f p tall cells a (p tall) refl (ge_each f p cells)

le_first : (f : TallCell → ℕ) (p : TallCell → Bool) (tall : TallCell) (cells : List TallCell) (a bound : ℕ) (b : Bool) → a ≤ bound → (b ≡ true → f tall ≤ bound) →
    ((from : ℕ) → from ≤ bound → fold max from (map f (filter p cells)) ≤ bound) → fold max a (map f (cond b (tall ∷ filter p cells) (filter p cells))) ≤ bound
le_first f p tall cells a bound true le first behind = let fits : f tall ≤ bound = first refl in behind (max a (f tall)) (omega arith)
le_first f p tall cells a bound false le first behind = behind a le

le_each : (f : TallCell → ℕ) (p : TallCell → Bool) (cells : List TallCell) (a bound : ℕ) → a ≤ bound → All (λ tall. p tall ≡ true → f tall ≤ bound) cells → fold max a (map f (filter p cells)) ≤ bound
le_each f p [] a bound le each = le
le_each f p (tall ∷ cells) a bound le each =
    le_first f p tall cells a bound (p tall) le (All-head (λ one. p one ≡ true → f one ≤ bound) tall cells each)
    (λ from below. le_each f p cells from bound below (All-tail (λ one. p one ≡ true → f one ≤ bound) tall cells each))

-- ---- the rows so far stay as they are

pub length-heights : (cells : List TallCell) (rows : ℕ) → length (heights_of cells rows) ≡ rows
length-heights cells zero = refl
length-heights cells (suc rows) =
    let one : length (heights_of cells (suc rows)) ≡ length (heights_of cells rows) + 1 = length_push (heights_of cells rows) (row_height cells (heights_of cells rows)) in
    let before : length (heights_of cells rows) ≡ rows = length-heights cells rows in
    omega arith

take-heights : (cells : List TallCell) (rows first : ℕ) → first ≤ rows → take first (heights_of cells rows) ≡ heights_of cells first
take-heights cells zero first le = let none : first ≡ 0 = omega arith in rw none refl
take-heights cells (suc rows) first le =
    elim (cases_lt rows first) [
      | inl all ↦
          let same : first ≡ suc rows = omega arith in
          subst (λ n. take n (heights_of cells (suc rows)) ≡ heights_of cells n) (sym same)
          (take_all (suc rows) (heights_of cells (suc rows)) (omega (arith, length-heights cells (suc rows))))
      | inr within ↦
          take-append-le first (heights_of cells rows) (row_height cells (heights_of cells rows) ∷ []) (omega (arith, length-heights cells rows))
          ∙ take-heights cells rows first within
    ]

-- ---- a sum of the rows that a cell spans

spanned : (sizes : List ℕ) (first count : ℕ) → take count (drop first sizes) ≡ drop first (take (first + count) sizes)
spanned sizes first count = sym (drop-take first count sizes)

sum_up_to : (earlier : List ℕ) (first last : ℕ) → first ≤ length earlier → sum (drop first (earlier ++ last ∷ [])) ≡ sum (drop first earlier) + last
sum_up_to earlier first last le = ap sum (drop-append-le first earlier (last ∷ []) le) ∙ sum_by_push (λ x. x) (drop first earlier) last

last_row : (tall : TallCell) (row : ℕ) → ends_in row tall ≡ true → tall.cell.row + tall.cell.span.rows ≡ row + 1
last_row tall row e = eqb-true (tall.cell.row + tall.cell.span.rows) (row + 1) e

-- what is left is enough for the cells that end in a row
enough_at : (cells : List TallCell) (tall : TallCell) (rows end : ℕ) → tall.cell.row + tall.cell.span.rows ≡ suc end → suc end ≤ rows → tall.cell.row ≤ end →
    beyond (heights_of cells end) tall ≤ row_height cells (heights_of cells end) → IsHighEnough (heights_of cells rows) tall
enough_at cells tall rows end ends within above le =
    let earlier : List ℕ = heights_of cells end in
    let last : ℕ = row_height cells earlier in
    let long : length earlier ≡ end = length-heights cells end in
    let all : sum (take tall.cell.span.rows (drop tall.cell.row (heights_of cells rows))) ≡ sum (drop tall.cell.row earlier) + last
    = ap sum (spanned (heights_of cells rows) tall.cell.row tall.cell.span.rows
    ∙ ap (drop tall.cell.row) (ap (λ n. take n (heights_of cells rows)) ends ∙ take-heights cells rows (suc end) within))
    ∙ sum_up_to earlier tall.cell.row last (omega arith) in
    omega arith

high_enough : (all : List TallCell) (rows : ℕ) (cells : List TallCell) → ((row : ℕ) → All (λ tall. ends_in row tall ≡ true → beyond (heights_of all row) tall ≤ row_height all (heights_of all row)) cells) →
    All (λ tall. SpansSome rows tall) cells → All (λ tall. IsHighEnough (heights_of all rows) tall) cells
high_enough all rows [] each are = All-nil (λ tall. IsHighEnough (heights_of all rows) tall)
high_enough all rows (tall ∷ cells) each are =
    All-cons (λ one. IsHighEnough (heights_of all rows) one) tall cells
    (first (All-head (λ one. SpansSome rows one) tall cells are))
    (high_enough all rows cells (λ row. All-tail (λ one. ends_in row one ≡ true → beyond (heights_of all row) one ≤ row_height all (heights_of all row)) tall cells (each row)) (All-tail (λ one. SpansSome rows one) tall cells are))
  where
    first : SpansSome rows tall → IsHighEnough (heights_of all rows) tall
    first spans =
        let end : ℕ = tall.cell.row + tall.cell.span.rows - 1 in
        let some : 1 ≤ tall.cell.span.rows = spans.some in
        let within : tall.cell.row + tall.cell.span.rows ≤ rows = spans.within in
        let there : eqb (tall.cell.row + tall.cell.span.rows) (tall.cell.row + tall.cell.span.rows - 1 + 1) ≡ true = grind (arith, nat_tests) in
        enough_at all tall rows (tall.cell.row + tall.cell.span.rows - 1) (omega arith) (omega arith) (omega arith)
        (All-head (λ one. ends_in (tall.cell.row + tall.cell.span.rows - 1) one ≡ true → beyond (heights_of all (tall.cell.row + tall.cell.span.rows - 1)) one ≤ row_height all (heights_of all (tall.cell.row + tall.cell.span.rows - 1))) tall cells (each (tall.cell.row + tall.cell.span.rows - 1)) there)

pub rows_high_enough : (cells : List TallCell) (rows : ℕ) → All (λ tall. SpansSome rows tall) cells → All (λ tall. IsHighEnough (heights_of cells rows) tall) cells
rows_high_enough cells rows are = high_enough cells rows cells by_row are
  where
    by_row : (row : ℕ) → All (λ tall. ends_in row tall ≡ true → beyond (heights_of cells row) tall ≤ row_height cells (heights_of cells row)) cells
    by_row row =
        subst (λ n. All (λ tall. ends_in n tall ≡ true → beyond (heights_of cells row) tall ≤ row_height cells (heights_of cells row)) cells) (length-heights cells row)
        (ge_each (beyond (heights_of cells row)) (ends_in (length (heights_of cells row))) cells 0)

-- ---- no row can be lower, where those before it are as they are

get_or-heights : (cells : List TallCell) (rows row : ℕ) → row < rows → get_or (heights_of cells rows) row 0 ≡ row_height cells (heights_of cells row)
get_or-heights cells zero row lt = absurd (omega arith)
get_or-heights cells (suc rows) row lt =
    elim (cases_lt row rows) [
      | inl before ↦
          get_or_append_left (heights_of cells rows) (row_height cells (heights_of cells rows) ∷ []) 0 row (omega (arith, length-heights cells rows))
          ∙ get_or-heights cells rows row before
      | inr last ↦
          let same : row ≡ rows = omega arith in
          subst (λ n. get_or (heights_of cells (suc rows)) n 0 ≡ row_height cells (heights_of cells n)) (sym same)
          (get_or_push (heights_of cells rows) (row_height cells (heights_of cells rows)) 0 rows (length-heights cells rows))
    ]

needed_at : (earlier others : List ℕ) (row : ℕ) (tall : TallCell) → length earlier ≡ row → row < length others → take row others ≡ earlier → 1 ≤ tall.cell.span.rows → IsHighEnough others tall → ends_in row tall ≡ true → beyond earlier tall ≤ get_or others row 0
needed_at earlier others row tall long lt same some high e =
    let ends : tall.cell.row + tall.cell.span.rows ≡ row + 1 = last_row tall row e in
    let all : sum (take tall.cell.span.rows (drop tall.cell.row others)) ≡ sum (drop tall.cell.row earlier) + get_or others row 0
    = ap sum (spanned others tall.cell.row tall.cell.span.rows
    ∙ ap (drop tall.cell.row) (ap (λ n. take n others) ends ∙ (take_more others row 0 lt ∙ ap (λ front. front ++ get_or others row 0 ∷ []) same)))
    ∙ sum_up_to earlier tall.cell.row (get_or others row 0) (omega arith) in
    omega arith

all_needed : (earlier others : List ℕ) (row rows : ℕ) → length earlier ≡ row → row < length others → take row others ≡ earlier → (cells : List TallCell) → All (λ tall. SpansSome rows tall) cells → All (λ tall. IsHighEnough others tall) cells →
    All (λ tall. ends_in row tall ≡ true → beyond earlier tall ≤ get_or others row 0) cells
all_needed earlier others row rows long lt same [] are high = All-nil (λ tall. ends_in row tall ≡ true → beyond earlier tall ≤ get_or others row 0)
all_needed earlier others row rows long lt same (tall ∷ cells) are high =
    All-cons (λ one. ends_in row one ≡ true → beyond earlier one ≤ get_or others row 0) tall cells
    (needed_at earlier others row tall long lt same (All-head (λ one. SpansSome rows one) tall cells are).some (All-head (λ one. IsHighEnough others one) tall cells high))
    (all_needed earlier others row rows long lt same cells (All-tail (λ one. SpansSome rows one) tall cells are) (All-tail (λ one. IsHighEnough others one) tall cells high))

pub none_lower : (cells : List TallCell) (rows row : ℕ) (others : List ℕ) → All (λ tall. SpansSome rows tall) cells → All (λ tall. IsHighEnough others tall) cells → length others ≡ rows → row < rows → take row others ≡ take row (heights_of cells rows) →
    get_or (heights_of cells rows) row 0 ≤ get_or others row 0
none_lower cells rows row others are high long lt same =
    subst (λ n. n ≤ get_or others row 0) (sym (get_or-heights cells rows row lt))
    (subst (λ n. greatest (map (beyond (heights_of cells row)) (filter (ends_in n) cells)) ≤ get_or others row 0) (sym (length-heights cells row))
    (le_each (beyond (heights_of cells row)) (ends_in row) cells 0 (get_or others row 0) (omega arith)
    (all_needed (heights_of cells row) others row rows (length-heights cells row) (omega arith) (same ∙ take-heights cells rows row (omega arith)) cells are high)))

-- ---- what the code keeps of the cells

pub needs_are : (earlier : List ℕ) (cells : List TallCell) → map (still_needed earlier) (map need_of cells) ≡ map (beyond earlier) cells
needs_are earlier [] = refl
needs_are earlier (tall ∷ cells) = ap (λ rest. beyond earlier tall ∷ rest) (needs_are earlier cells)

pub heights_fit : (earlier : List ℕ) (cells : List TallCell) (p : TallCell → Bool) → greatest (map (beyond earlier) (filter p cells)) ≤ most
heights_fit earlier cells p = le_each (beyond earlier) p cells 0 most (omega arith) (each cells)
  where
    within : (z : ℕ) (rest : ℕ) → min z most - rest ≤ most
    within z rest = omega arith

    each : (more : List TallCell) → All (λ tall. p tall ≡ true → beyond earlier tall ≤ most) more
    each more = λ k d below e. within (natural (get_or more k d).height) (sum (drop (get_or more k d).cell.row earlier))

pub needs_begin : (row rows : ℕ) (cells : List TallCell) → All (λ tall. SpansSome rows tall) cells → All (λ need. need.row ≤ row) (map need_of (filter (ends_in row) cells))
needs_begin row rows cells are = All-map (λ need. need.row ≤ row) need_of (filter (ends_in row) cells) (begin cells are)
  where
    one : (tall : TallCell) → SpansSome rows tall → ends_in row tall ≡ true → tall.cell.row ≤ row
    one tall spans e = let ends : tall.cell.row + tall.cell.span.rows ≡ row + 1 = last_row tall row e in let some : 1 ≤ tall.cell.span.rows = spans.some in omega arith

    kept : (tall : TallCell) (rest : List TallCell) (b : Bool) → (b ≡ true → tall.cell.row ≤ row) → All (λ t. t.cell.row ≤ row) rest → All (λ t. t.cell.row ≤ row) (cond b (tall ∷ rest) rest)
    kept tall rest true first behind = All-cons (λ t. t.cell.row ≤ row) tall rest (first refl) behind
    kept tall rest false first behind = behind

    begin : (more : List TallCell) → All (λ tall. SpansSome rows tall) more → All (λ tall. tall.cell.row ≤ row) (filter (ends_in row) more)
    begin [] are = All-nil (λ tall. tall.cell.row ≤ row)
    begin (tall ∷ more) are =
        kept tall (filter (ends_in row) more) (ends_in row tall) (one tall (All-head (λ t. SpansSome rows t) tall more are)) (begin more (All-tail (λ t. SpansSome rows t) tall more are))
