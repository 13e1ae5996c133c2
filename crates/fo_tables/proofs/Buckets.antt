-- How the code sorts what cells need by their last rows.
use Rattle.std.proofs.Common.{◌≡◌, ◌≢◌, ◌⊎◌, ℕ, zero, suc, ◌+◌, ◌-◌, ◌<◌, ◌≤◌, Bool, true, false, cond, eqb, ℤ, pos, List, [], ◌∷◌, ◌++◌, length, map, take, drop, get_or, set, replicate, refl, sym, ap, ◌∙◌, subst, inl, inr, arith, append-nil, add-one}
use Rattle.std.specs.List.{All, filter}
use Rattle.std.proofs.lemmas.Bool.{cases_eq}
use Rattle.std.proofs.lemmas.Bool.Decides.{nat_tests}
use Rattle.std.proofs.lemmas.List.{map-append, map_push, get_or_default, get_or-set_same, get_or-set_other}
use Rattle.std.proofs.lemmas.List.Elements.{All-nil, All-cons, All-head, All-tail, filter_more}
use Rattle.fo_tables.specs.declared.cells.GridCell.{GridCell}
use Rattle.fo_tables.specs.declared.heights.Need.{Need}
use Rattle.fo_tables.specs.Sizes.{most, size}
use Rattle.fo_tables.specs.Cells.{IsSpan}
use Rattle.fo_tables.specs.Heights.{TallCell, tall_cells, ends_in, beyond, greatest, row_height, heights_of, SpansSome}
use Rattle.fo_tables.specs.Needs.{need_of, still_needed, empty_rows, IsByLastRow}
use Rattle.fo_tables.proofs.Stacked.{needs_are, heights_fit, needs_begin, length-heights}

-- ---- a cell with its height

pub length-tall_cells : (cells : List GridCell) (heights : List ℤ) → length heights ≡ length cells → length (tall_cells cells heights) ≡ length cells
length-tall_cells [] heights e = refl
length-tall_cells (cell ∷ cells) [] e = absurd (omega arith)
length-tall_cells (cell ∷ cells) (height ∷ heights) e = ap suc (length-tall_cells cells heights (omega arith))

pub tall_at : (cells : List GridCell) (heights : List ℤ) (k : ℕ) (one : GridCell) (size : ℤ) (d : TallCell) → k < length cells → k < length heights → get_or (tall_cells cells heights) k d ≡ record { cell = get_or cells k one; height = get_or heights k size }
tall_at [] heights k one size d lt lh = absurd (omega arith)
tall_at (cell ∷ cells) [] k one size d lt lh = absurd (omega arith)
tall_at (cell ∷ cells) (height ∷ heights) zero one size d lt lh = refl
tall_at (cell ∷ cells) (height ∷ heights) (suc k) one size d lt lh = tall_at cells heights k one size d (omega arith) (omega arith)

pub tall_spans : (rows : ℕ) (cells : List GridCell) (heights : List ℤ) → All (λ cell. IsSpan cell.span) cells → All (λ cell. cell.row + cell.span.rows ≤ rows) cells → All (SpansSome rows) (tall_cells cells heights)
tall_spans rows [] heights are within = All-nil (SpansSome rows)
tall_spans rows (cell ∷ cells) [] are within = All-nil (SpansSome rows)
tall_spans rows (cell ∷ cells) (height ∷ heights) are within =
    All-cons (SpansSome rows) (record { cell = cell; height = height }) (tall_cells cells heights)
    (record { some = (All-head (λ c. IsSpan c.span) cell cells are).some_rows; within = All-head (λ c. c.row + c.span.rows ≤ rows) cell cells within })
    (tall_spans rows cells heights (All-tail (λ c. IsSpan c.span) cell cells are) (All-tail (λ c. c.row + c.span.rows ≤ rows) cell cells within))

-- ---- by their last rows

pub none_yet : (rows row : ℕ) → get_or (empty_rows rows) row [] ≡ []
none_yet zero row = refl
none_yet (suc rows) zero = refl
none_yet (suc rows) (suc row) = none_yet rows row

one_row : (needs : List Need) (one : TallCell) (b : Bool) → b ≡ true → needs ++ map need_of (cond b (one ∷ []) []) ≡ needs ++ need_of one ∷ []
one_row needs one true e = refl
one_row needs one false e = absurd (cc)

other_row : (needs : List Need) (one : TallCell) (b : Bool) → b ≡ false → needs ++ map need_of (cond b (one ∷ []) []) ≡ needs
other_row needs one true e = absurd (cc)
other_row needs one false e = append-nil needs

pub bucket_more : (tall : List TallCell) (ending : List (List Need)) (place rows last : ℕ) (one : TallCell) → place < length tall → get_or tall place one ≡ one → last + 1 ≡ one.cell.row + one.cell.span.rows → length ending ≡ rows → last < rows →
    ((row : ℕ) → row < rows → get_or ending row [] ≡ map need_of (filter (ends_in row) (take place tall))) →
    (row : ℕ) → row < rows → get_or (set ending last (get_or ending last [] ++ need_of one ∷ [])) row [] ≡ map need_of (filter (ends_in row) (take (place + 1) tall))
bucket_more tall ending place rows last one within at ends long fits so_far row lt = by_row (cases_eq row last)
  where
    more : map need_of (filter (ends_in row) (take (place + 1) tall)) ≡ map need_of (filter (ends_in row) (take place tall)) ++ map need_of (cond (ends_in row one) (one ∷ []) [])
    more =
        ap (map need_of) (filter_more (ends_in row) tall place one within ∙ (λ i. filter (ends_in row) (take place tall) ++ cond (ends_in row (at i)) (at i ∷ []) []))
        ∙ map-append need_of (filter (ends_in row) (take place tall)) (cond (ends_in row one) (one ∷ []) [])

    ends_here : row ≡ last → ends_in row one ≡ true
    ends_here same = grind (arith, nat_tests)

    ends_elsewhere : row ≢ last → ends_in row one ≡ false
    ends_elsewhere apart = grind (arith, nat_tests)

    by_row : (row ≡ last) ⊎ (row ≢ last) → get_or (set ending last (get_or ending last [] ++ need_of one ∷ [])) row [] ≡ map need_of (filter (ends_in row) (take (place + 1) tall))
    by_row (inl same) =
        ap (λ n. get_or (set ending last (get_or ending last [] ++ need_of one ∷ [])) n []) same
        ∙ (get_or-set_same ending last (get_or ending last [] ++ need_of one ∷ []) [] (omega arith)
        ∙ (ap (λ needs. needs ++ need_of one ∷ []) (ap (λ n. get_or ending n []) (sym same) ∙ so_far row lt)
        ∙ (sym (one_row (map need_of (filter (ends_in row) (take place tall))) one (ends_in row one) (ends_here same)) ∙ sym more)))
    by_row (inr apart) =
        get_or-set_other ending last row (get_or ending last [] ++ need_of one ∷ []) [] apart
        ∙ (so_far row lt ∙ (sym (other_row (map need_of (filter (ends_in row) (take place tall))) one (ends_in row one) (ends_elsewhere apart)) ∙ sym more))

-- ---- the height of a row from what is needed

pub row_from_needs : (tall : List TallCell) (row : ℕ) (earlier : List ℕ) (needs : List Need) → earlier ≡ heights_of tall row → needs ≡ map need_of (filter (ends_in row) tall) →
    greatest (map (still_needed earlier) needs) ≡ row_height tall earlier
row_from_needs tall row earlier needs so_far are =
    let long : length earlier ≡ row = ap length so_far ∙ length-heights tall row in
    ap (λ ns. greatest (map (still_needed earlier) ns)) are
    ∙ (ap greatest (needs_are earlier (filter (ends_in row) tall))
    ∙ ap (λ n. greatest (map (beyond earlier) (filter (ends_in n) tall))) (sym long))

pub row_fits : (tall : List TallCell) (row : ℕ) (earlier : List ℕ) (needs : List Need) → earlier ≡ heights_of tall row → needs ≡ map need_of (filter (ends_in row) tall) → greatest (map (still_needed earlier) needs) ≤ most
row_fits tall row earlier needs so_far are = subst (λ n. n ≤ most) (sym (row_from_needs tall row earlier needs so_far are)) (heights_fit earlier tall (ends_in (length earlier)))

pub bucket_pushed : (cells : List GridCell) (heights : List ℤ) (ending : List (List Need)) (place rows last : ℕ) (d : GridCell) (e : ℤ) (amount : ℕ) (old now : List Need) → place < length cells → length heights ≡ length cells →
    last + 1 ≡ (get_or cells place d).row + (get_or cells place d).span.rows → length ending ≡ rows → last < rows → amount ≡ size (get_or heights place e) → old ≡ get_or ending last [] → now ≡ old ++ record { row = (get_or cells place d).row; height = amount } ∷ [] →
    ((row : ℕ) → row < rows → get_or ending row [] ≡ map need_of (filter (ends_in row) (take place (tall_cells cells heights)))) →
    (row : ℕ) → row < rows → get_or (set ending last now) row [] ≡ map need_of (filter (ends_in row) (take (place + 1) (tall_cells cells heights)))
bucket_pushed cells heights ending place rows last d e amount old now within long ends rows_are fits sized was pushed so_far row lt =
    let one : TallCell = record { cell = get_or cells place d; height = get_or heights place e } in
    let same : now ≡ get_or ending last [] ++ need_of one ∷ [] = pushed ∙ (λ i. was i ++ need (sized i) ∷ []) in
    ap (λ (needs : List Need). get_or (set ending last needs) row []) same
    ∙ bucket_more (tall_cells cells heights) ending place rows last one (omega (arith, length-tall_cells cells heights long)) (tall_at cells heights place d e one within (omega arith)) ends rows_are fits so_far row lt
  where
    need : ℕ → Need
    need n = record { row = (get_or cells place d).row; height = n }

-- ---- one row after another

pub row_needs : (tall : List TallCell) (rows : ℕ) (ending walked : List (List Need)) (row : ℕ) (needs item : List Need) → IsByLastRow tall rows ending → walked ≡ ending → row < length walked → item ≡ get_or walked row item → needs ≡ item →
    needs ≡ map need_of (filter (ends_in row) tall)
row_needs tall rows ending walked row needs item by walked_is within item_is needs_is =
    let long : length walked ≡ rows = ap length walked_is ∙ by.rows_are in
    needs_is ∙ (item_is ∙ (get_or_default walked row item [] within ∙ (ap (λ e. get_or e row []) walked_is ∙ by.needs row (omega arith))))

pub needs_above : (tall : List TallCell) (rows row : ℕ) (earlier : List ℕ) (needs : List Need) → All (SpansSome rows) tall → earlier ≡ heights_of tall row → needs ≡ map need_of (filter (ends_in row) tall) → All (λ need. need.row ≤ length earlier) needs
needs_above tall rows row earlier needs spans so_far are =
    let long : length earlier ≡ row = ap length so_far ∙ length-heights tall row in
    subst (λ n. All (λ need. need.row ≤ n) needs) (sym long) (subst (λ ns. All (λ need. need.row ≤ row) ns) (sym are) (needs_begin row rows tall spans))

pub one_row_more : (tall : List TallCell) (row : ℕ) (before after earlier : List ℕ) (needs : List Need) (height : ℕ) → before ≡ heights_of tall row → earlier ≡ before → needs ≡ map need_of (filter (ends_in row) tall) → height ≡ greatest (map (still_needed earlier) needs) → after ≡ before ++ height ∷ [] →
    after ≡ heights_of tall (row + 1)
one_row_more tall row before after earlier needs height so_far same are height_is more =
    let high : height ≡ row_height tall (heights_of tall row) = height_is ∙ (row_from_needs tall row earlier needs (same ∙ so_far) are ∙ ap (row_height tall) (same ∙ so_far)) in
    subst (λ n. after ≡ heights_of tall n) (sym (add-one row)) (more ∙ (λ i. so_far i ++ high i ∷ []))

pub found_more : (before after : List ℕ) (found now : List ℤ) (height : ℕ) → found ≡ map pos before → now ≡ found ++ pos height ∷ [] → after ≡ before ++ height ∷ [] → now ≡ map pos after
found_more before after found now height so_far pushed more =
    pushed ∙ (ap (λ fs. fs ++ pos height ∷ []) so_far ∙ (sym (map_push pos before height) ∙ ap (map pos) (sym more)))
