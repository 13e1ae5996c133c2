-- The widths of a table's columns (XSL 1.1, 6.7.4 and 7.28.4; the fixed table layout of CSS 2, 17.5.2.1). What is cut off is this
-- project's own rule: a share is cut to whole millipoints, and what the cutting leaves goes to the last proportional column.
use Rattle.std.specs.Prelude.{ℕ, ◌+◌, ◌-◌, ◌*◌, ◌/◌, ◌≤◌, min, Bool, true, false, not, ◌&&◌, ℤ, List, [], ◌∷◌, ◌++◌, length, replicate, if◌then◌else◌}
use Rattle.std.specs.List.{sum_by, list_any}
use Rattle.fo_tables.specs.declared.widths.ColumnWidth.{ColumnWidth}
use Rattle.fo_tables.specs.declared.widths.ColumnWidth.TheVariants.{Fixed, Percent, Share}
use Rattle.fo_tables.specs.Sizes.{most, natural, size}

-- `proportional-column-width(n)` has a number from 1 to 9999
abbrev pub IsColumn : ColumnWidth → Type 0
IsColumn (Fixed width) = Unit {0}
IsColumn (Percent part) = Unit {0}
IsColumn (Share number) = (1 ≤ number) × (number ≤ 9999)

-- there are as many columns as were given or as are needed; a column that was not given is `proportional-column-width(1)`
abbrev pub all_columns : List ColumnWidth → ℕ → List ColumnWidth
all_columns given needed = given ++ replicate (needed - length given) (Share 1)

-- so many millionths of one per cent of the table's width, cut to whole millipoints
abbrev pub percentage : ℕ → ℕ → ℕ
percentage table part = min (table * part / 100_000_000) most

-- the width of a column that is not proportional
abbrev pub fixed_width : ℕ → ColumnWidth → ℕ
fixed_width table (Fixed width) = size width
fixed_width table (Percent part) = percentage table (natural part)
fixed_width table (Share number) = 0

abbrev pub is_share : ColumnWidth → Bool
is_share (Fixed width) = false
is_share (Percent part) = false
is_share (Share number) = true

abbrev pub share_of : ColumnWidth → ℕ
share_of (Fixed width) = 0
share_of (Percent part) = 0
share_of (Share number) = number

-- what the other columns leave of the table's width for the proportional ones
abbrev pub left_over : ℕ → List ColumnWidth → ℕ
left_over table columns = table - sum_by (fixed_width table) columns

-- so much in proportion, cut to whole millipoints
abbrev pub cut_share : ℕ → ℕ → ColumnWidth → ℕ
cut_share left shares (Fixed width) = 0
cut_share left shares (Percent part) = 0
cut_share left shares (Share number) = left * number / shares

-- what the cutting leaves
abbrev pub cut_off : ℕ → ℕ → List ColumnWidth → ℕ
cut_off left shares columns = left - sum_by (cut_share left shares) columns

-- a proportional column with none behind it
abbrev pub is_last_share : ColumnWidth → List ColumnWidth → Bool
is_last_share column behind = is_share column && not (list_any is_share behind)

-- each column has its own width, and the last proportional one has the rest too
abbrev pub with_rest : (ColumnWidth → ℕ) → ℕ → List ColumnWidth → List ℕ
with_rest width rest [] = []
with_rest width rest (column ∷ behind) = (width column + (if is_last_share column behind then rest else 0)) ∷ with_rest width rest behind

abbrev pub shared_out : ℕ → ℕ → ℕ → List ColumnWidth → List ℕ
shared_out table left shares columns = with_rest (λ column. fixed_width table column + cut_share left shares column) (cut_off left shares columns) columns

abbrev pub widths_in : ℕ → List ColumnWidth → List ℕ
widths_in table columns = shared_out table (left_over table columns) (sum_by share_of columns) columns

-- the widths of the columns of a table that is so wide
abbrev pub widths_of : List ColumnWidth → ℕ → ℤ → List ℕ
widths_of given needed width = widths_in (size width) (all_columns given needed)
