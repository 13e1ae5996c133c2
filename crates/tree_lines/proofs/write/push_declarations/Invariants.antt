-- The declarations so far are written.
use Rattle.std.proofs.Common.{◌≡◌, ◌++◌, map, take}
use Rattle.std.specs.String.{string_bytes}
use Rattle.tree_lines.specs.Canonical.{declaration_line, text_of_lines}
use Rattle.tree_lines.proofs.write.push_declarations.Given as goal

abbrev pub invariant-loop-place : goal.invariant-loop-place
invariant-loop-place l =
    string_bytes l.out ≡ string_bytes l.initial.out ++ text_of_lines (map declaration_line (take l.place l.spaces))
