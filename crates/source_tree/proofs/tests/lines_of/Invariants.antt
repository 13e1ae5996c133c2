use Rattle.std.proofs.Common.{◌≡◌, ℕ, List, Bor, map, take}
use Rattle.tree_lines.specs.declared.tree.Line.{Line}
use Rattle.source_tree.proofs.tests.lines_of.Given as goal

-- the lines of the rows so far
abbrev pub invariant-loop-row : goal.invariant-loop-row
invariant-loop-row l = map (λ (line : Line). line.bytes) l.lines.items ≡ map (λ (row : Bor (List ℕ)). row.now) (take l.row-index l.rows)
