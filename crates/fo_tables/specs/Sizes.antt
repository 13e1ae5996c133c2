-- Widths and heights as they count, in millipoints (this project's own): none is below 0, and none passes 10^18.
use Rattle.std.specs.Prelude.{ℕ, min, ℤ, pos, negsuc}

-- the bound of every width and height
abbrev pub most : ℕ
most = 1_000_000_000_000_000_000

-- a number below 0 counts as 0
abbrev pub natural : ℤ → ℕ
natural (pos n) = n
natural (negsuc n) = 0

-- a width or a height outside 0 to 10^18 counts as the bound that is next to it
abbrev pub size : ℤ → ℕ
size z = min (natural z) most
