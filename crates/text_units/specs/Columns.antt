-- How wide a cluster stands on a page of equal columns.
use Rattle.std.specs.Prelude.{ℕ, Bool, false, ◌||◌, ◌==◌, List, [], ◌∷◌, if◌then◌else◌}
use Rattle.std.specs.Str.{chars}
use Rattle.unicode_width.specs.Width.{str_width}

-- the cluster is this one byte
abbrev pub is_byte : ℕ → List ℕ → Bool
is_byte byte (b ∷ []) = b == byte
is_byte byte _ = false

-- a cluster that is exactly a space, a tab or a line feed
abbrev pub is_blank : List ℕ → Bool
is_blank cluster = is_byte 0x20 cluster || is_byte 0x09 cluster || is_byte 0x0A cluster

-- the columns of a cluster: 1 for a blank, which is this project's own rule, and else the width of its characters,
-- by East_Asian_Width (UAX 11) outside an East Asian context
abbrev pub columns_of : List ℕ → ℕ
columns_of cluster = if is_blank cluster then 1 else str_width false (chars cluster)
