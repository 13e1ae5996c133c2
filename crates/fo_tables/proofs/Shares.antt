-- What the widths of columns add up to.
use Rattle.std.proofs.Common.{◌≡◌, ℕ, suc, ◌+◌, ◌-◌, ◌*◌, ◌≤◌, max, Bool, true, false, cond, not, ◌&&◌, ◌||◌, List, [], ◌∷◌, length, replicate, refl, sym, ap, ◌∙◌, arith, ℤ}
use Rattle.std.specs.List.{All, sum, sum_by, list_any}
use Rattle.std.proofs.lemmas.List.{length-append, length-replicate}
use Rattle.std.proofs.lemmas.List.Sums.{sum_by-cons}
use Rattle.std.proofs.lemmas.List.Elements.{All-head, All-tail, All-append, All-replicate}
use Rattle.std.proofs.Math.Nat.{mul-add, add-mul, div-mul-le_self, le_of_mul-le-mul_right}
use Rattle.fo_tables.specs.declared.widths.ColumnWidth.{ColumnWidth}
use Rattle.fo_tables.specs.declared.widths.ColumnWidth.TheVariants.{Fixed, Percent, Share}
use Rattle.fo_tables.specs.Sizes.{size}
use Rattle.fo_tables.specs.Widths.{IsColumn, all_columns, fixed_width, is_share, share_of, left_over, cut_share, cut_off, is_last_share, with_rest, shared_out, widths_in, widths_of}

-- ---- the rest is given once

rest_once : (a b : Bool) (rest : ℕ) → cond (a && not b) rest 0 + cond b rest 0 ≡ cond (a || b) rest 0
rest_once true true rest = omega arith
rest_once true false rest = omega arith
rest_once false true rest = omega arith
rest_once false false rest = omega arith

regroup : (all first behind width widths once rest rests : ℕ) → all ≡ (width + once) + behind → behind ≡ widths + rests → once + rests ≡ rest → all ≡ (width + widths) + rest
regroup all first behind width widths once rest rests p q r = omega arith

pub sum-with_rest : (width : ColumnWidth → ℕ) (rest : ℕ) (columns : List ColumnWidth) → sum (with_rest width rest columns) ≡ sum_by width columns + cond (list_any is_share columns) rest 0
sum-with_rest width rest [] = refl
sum-with_rest width rest (column ∷ behind) =
    regroup _ 0 (sum (with_rest width rest behind)) (width column) (sum_by width behind) (cond (is_last_share column behind) rest 0) (cond (list_any is_share (column ∷ behind)) rest 0) (cond (list_any is_share behind) rest 0)
    (sum_by-cons (λ x. x) (width column + cond (is_last_share column behind) rest 0) (with_rest width rest behind))
    (sum-with_rest width rest behind)
    (rest_once (is_share column) (list_any is_share behind) rest)
    ∙ ap (λ n. n + cond (list_any is_share (column ∷ behind)) rest 0) (sym (sum_by-cons width column behind))

two_sums : (all each f g fs gs : ℕ) → all ≡ (f + g) + each → each ≡ fs + gs → all ≡ (f + fs) + (g + gs)
two_sums all each f g fs gs p q = omega arith

pub sum_by-plus : (f g : ColumnWidth → ℕ) (columns : List ColumnWidth) → sum_by (λ column. f column + g column) columns ≡ sum_by f columns + sum_by g columns
sum_by-plus f g [] = refl
sum_by-plus f g (column ∷ behind) =
    two_sums _ (sum_by (λ c. f c + g c) behind) (f column) (g column) (sum_by f behind) (sum_by g behind) (sum_by-cons (λ c. f c + g c) column behind) (sum_by-plus f g behind)
    ∙ (λ i. sym (sum_by-cons f column behind) i + sym (sum_by-cons g column behind) i)

-- ---- the shares are within what is shared

cut_within : (left shares : ℕ) (column : ColumnWidth) → cut_share left shares column * shares ≤ left * share_of column
cut_within left shares (Fixed width) = omega arith
cut_within left shares (Percent part) = omega arith
cut_within left shares (Share number) = div-mul-le_self (left * number) shares

add_within : (all c cs : ℕ) (s ss left shares part : ℕ) → all ≡ c + cs → part ≡ s + ss → c * shares ≤ left * s → cs * shares ≤ left * ss → all * shares ≤ left * part
add_within all c cs s ss left shares part p q h k =
    let wide : all * shares ≡ c * shares + cs * shares = ap (λ n. n * shares) p ∙ add-mul c cs shares in
    let parts : left * part ≡ left * s + left * ss = ap (λ n. left * n) q ∙ mul-add left s ss in
    omega arith

cuts_within : (left shares : ℕ) (columns : List ColumnWidth) → sum_by (cut_share left shares) columns * shares ≤ left * sum_by share_of columns
cuts_within left shares [] = omega arith
cuts_within left shares (column ∷ behind) =
    add_within _ _ _ _ _ left shares _ (sum_by-cons (cut_share left shares) column behind) (sum_by-cons share_of column behind) (cut_within left shares column) (cuts_within left shares behind)

number_counts : (column : ColumnWidth) → IsColumn column → is_share column ≡ true → 1 ≤ share_of column
number_counts (Fixed width) is e = absurd (cc)
number_counts (Percent part) is e = absurd (cc)
number_counts (Share number) is e = is.0

first_counts : (a rest all : ℕ) (b : Bool) → all ≡ a + rest → (b ≡ true → 1 ≤ a) → (b ≡ false → 1 ≤ rest) → 1 ≤ all
first_counts a rest all true e f g = let some : 1 ≤ a = f refl in omega arith
first_counts a rest all false e f g = let some : 1 ≤ rest = g refl in omega arith

some_shares : (columns : List ColumnWidth) → All IsColumn columns → list_any is_share columns ≡ true → 1 ≤ sum_by share_of columns
some_shares [] are e = absurd (cc)
some_shares (column ∷ behind) are e =
    first_counts (share_of column) (sum_by share_of behind) _ (is_share column) (sum_by-cons share_of column behind)
    (number_counts column (All-head IsColumn column behind are))
    (λ is. some_shares behind (All-tail IsColumn column behind are) (sym (ap (λ b. b || list_any is_share behind) is) ∙ e))

cuts_le : (left : ℕ) (columns : List ColumnWidth) → All IsColumn columns → list_any is_share columns ≡ true → sum_by (cut_share left (sum_by share_of columns)) columns ≤ left
cuts_le left columns are e = le_of_mul-le-mul_right (cuts_within left (sum_by share_of columns) columns) (some_shares columns are e)

filled_up : (all own cuts table left rest : ℕ) → all ≡ (own + cuts) + rest → left ≡ table - own → rest ≡ left - cuts → cuts ≤ left → all ≡ max table own
filled_up all own cuts table left rest p q r le = omega arith

pub filled : (table : ℕ) (columns : List ColumnWidth) → All IsColumn columns → list_any is_share columns ≡ true → sum (widths_in table columns) ≡ max table (sum_by (fixed_width table) columns)
filled table columns are e =
    let left : ℕ = left_over table columns in
    let shares : ℕ = sum_by share_of columns in
    filled_up (sum (widths_in table columns)) (sum_by (fixed_width table) columns) (sum_by (cut_share left shares) columns) table left (cut_off left shares columns)
    (sum-with_rest (λ column. fixed_width table column + cut_share left shares column) (cut_off left shares columns) columns
    ∙ (λ i. sum_by-plus (fixed_width table) (cut_share left shares) columns i + cond (e i) (cut_off left shares columns) 0))
    refl refl (cuts_le left columns are e)

-- ---- without a share

no_cut : (left shares : ℕ) (column : ColumnWidth) → is_share column ≡ false → cut_share left shares column ≡ 0
no_cut left shares (Fixed width) e = refl
no_cut left shares (Percent part) e = refl
no_cut left shares (Share number) e = absurd (cc)

none_first : (a b : Bool) → (a || b) ≡ false → a ≡ false
none_first true b e = e
none_first false b e = refl

none_behind : (a b : Bool) → (a || b) ≡ false → b ≡ false
none_behind true b e = absurd (cc)
none_behind false b e = e

no_cuts : (left shares : ℕ) (columns : List ColumnWidth) → list_any is_share columns ≡ false → sum_by (cut_share left shares) columns ≡ 0
no_cuts left shares [] e = refl
no_cuts left shares (column ∷ behind) e =
    sum_by-cons (cut_share left shares) column behind
    ∙ (λ i. no_cut left shares column (none_first (is_share column) (list_any is_share behind) e) i + no_cuts left shares behind (none_behind (is_share column) (list_any is_share behind) e) i)

alone_up : (all own cuts rest : ℕ) → all ≡ (own + cuts) + rest → cuts ≡ 0 → rest ≡ 0 → all ≡ own
alone_up all own cuts rest p q r = omega arith

pub alone : (table : ℕ) (columns : List ColumnWidth) → list_any is_share columns ≡ false → sum (widths_in table columns) ≡ sum_by (fixed_width table) columns
alone table columns e =
    let left : ℕ = left_over table columns in
    let shares : ℕ = sum_by share_of columns in
    alone_up (sum (widths_in table columns)) (sum_by (fixed_width table) columns) (sum_by (cut_share left shares) columns) 0
    (sum-with_rest (λ column. fixed_width table column + cut_share left shares column) (cut_off left shares columns) columns
    ∙ (λ i. sum_by-plus (fixed_width table) (cut_share left shares) columns i + cond (e i) (cut_off left shares columns) 0))
    (no_cuts left shares columns e) refl

-- ---- how many columns there are

length-with_rest : (width : ColumnWidth → ℕ) (rest : ℕ) (columns : List ColumnWidth) → length (with_rest width rest columns) ≡ length columns
length-with_rest width rest [] = refl
length-with_rest width rest (column ∷ behind) = ap suc (length-with_rest width rest behind)

pub are_columns : (given : List ColumnWidth) (needed : ℕ) → All IsColumn given → All IsColumn (all_columns given needed)
are_columns given needed are =
    All-append IsColumn given (replicate (needed - length given) (Share 1)) are
    (All-replicate IsColumn (needed - length given) (Share 1) (omega arith, omega arith))

pub count : (given : List ColumnWidth) (needed : ℕ) (width : ℤ) → length (widths_of given needed width) ≡ max (length given) needed
count given needed width =
    let columns : List ColumnWidth = all_columns given needed in
    let left : ℕ = left_over (size width) columns in
    let all : length (widths_of given needed width) ≡ length columns
    = length-with_rest (λ column. fixed_width (size width) column + cut_share left (sum_by share_of columns) column) (cut_off left (sum_by share_of columns) columns) columns in
    let long : length columns ≡ length given + (needed - length given)
    = length-append given (replicate (needed - length given) (Share 1)) ∙ ap (λ n. length given + n) (length-replicate (needed - length given) (Share 1)) in
    all ∙ (long ∙ greater (length given) needed)
  where
    greater : (a b : ℕ) → a + (b - a) ≡ max a b
    greater a b = omega arith

-- ---- the code's steps, together

pub columns_are : (given : List ColumnWidth) (needed : ℕ) (width : ℤ) (table left : ℕ) (columns others : List ColumnWidth) → table ≡ size width → columns ≡ all_columns given needed → others ≡ all_columns given needed → left ≡ left_over table columns →
    shared_out table left (sum_by share_of others) others ≡ widths_of given needed width
columns_are given needed width table left columns others wide all same rest =
    let over : left ≡ left_over (size width) (all_columns given needed) = rest ∙ (λ i. left_over (wide i) (all i)) in
    λ i. shared_out (wide i) (over i) (sum_by share_of (same i)) (same i)
