-- Lengths and their sums, in millipoints (this project's own): what would pass 10^18, or fall below -10^18, stays at that bound.
use Rattle.std.specs.Prelude.{ℕ, ℤ, pos, negsuc, ◌+ℤ◌, ◌-ℤ◌, int_lt, if◌then◌else◌}

abbrev pub most : ℕ
most = 1_000_000_000_000_000_000

abbrev pub least : ℤ
least = negsuc 999_999_999_999_999_999

abbrev pub bounded : ℤ → ℤ
bounded z = if int_lt z least then least else (if int_lt (pos most) z then pos most else z)

abbrev pub plus : ℤ → ℤ → ℤ
plus a b = bounded (a +ℤ b)

abbrev pub minus : ℤ → ℤ → ℤ
minus a b = bounded (a -ℤ b)

-- a length below 0 counts as 0
abbrev pub natural : ℤ → ℕ
natural (pos n) = n
natural (negsuc n) = 0
