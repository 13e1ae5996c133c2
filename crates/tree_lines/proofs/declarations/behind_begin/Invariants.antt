-- The lines that are left have the first beginning that all lines have.
use Rattle.std.proofs.Common.{◌≡◌, length}
use Rattle.tree_lines.specs.Declarations.{outermost_attributes}
use Rattle.tree_lines.specs.Faults.{bytes_of}
use Rattle.tree_lines.proofs.declarations.behind_begin.Given as goal

abbrev pub invariant-loop-line : goal.invariant-loop-line
invariant-loop-line l = outermost_attributes (bytes_of l.rest) ≡ outermost_attributes (bytes_of l.lines)

abbrev pub decreases-loop-line : goal.decreases-loop-line
decreases-loop-line l = length l.rest
