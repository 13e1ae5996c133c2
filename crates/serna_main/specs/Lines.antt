-- Lines with their numbers.
use Rattle.std.specs.Prelude.{ℕ, ◌+◌, List, [], ◌∷◌}
use Rattle.tree_lines.specs.declared.tree.Line.{Line}

-- lines numbered from a number on
abbrev pub numbered_lines : ℕ → List (List ℕ) → List Line
numbered_lines number [] = []
numbered_lines number (line ∷ lines) = record { number = number; bytes = line } ∷ numbered_lines (number + 1) lines
