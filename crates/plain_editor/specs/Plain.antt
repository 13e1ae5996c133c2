-- The characters that an input may have, so far.
use Rattle.std.specs.Prelude.{ℕ, ◌&&◌, nat_le, Bool, List}
use Rattle.std.specs.List.{list_all}

-- printable ASCII; tabs and LF are written by their escapes
abbrev pub is_plain : List ℕ → Bool
is_plain line = list_all (λ b. nat_le 32 b && nat_le b 126) line
