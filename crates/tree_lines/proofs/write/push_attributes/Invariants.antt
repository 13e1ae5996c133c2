-- The attributes so far are written.
use Rattle.std.proofs.Common.{◌≡◌, ◌++◌, map, take}
use Rattle.std.specs.String.{string_bytes}
use Rattle.tree_lines.specs.Canonical.{attribute_line, text_of_lines}
use Rattle.tree_lines.proofs.write.push_attributes.Given as goal

abbrev pub invariant-loop-pair : goal.invariant-loop-pair
invariant-loop-pair l =
    string_bytes l.out ≡ string_bytes l.initial.out ++ text_of_lines (map (attribute_line l.names) (take l.pair-index l.attributes))
