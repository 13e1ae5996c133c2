-- What is declared so far, with what the lines that are left declare, is what all of them declare.
use Rattle.std.proofs.Common.{◌≡◌, ◌++◌, drop}
use Rattle.std.specs.List.{flat_map, take_while}
use Rattle.tree_lines.specs.Declarations.{begins_with, declared_by, spaces_in}
use Rattle.tree_lines.specs.Faults.{bytes_of}
use Rattle.tree_lines.proofs.declarations.read_spaces.Given as goal

abbrev pub invariant-loop-line : goal.invariant-loop-line
invariant-loop-line l =
    l.spaces ++ flat_map declared_by (take_while (begins_with 65) (bytes_of (drop l.line-index l.line-items))) ≡ spaces_in (bytes_of l.lines)
