use Rattle.std.proofs.Common.{◌≡◌, ◌++◌, take}
use Rattle.std.specs.List.{flat_map}
use Rattle.std.specs.String.{string_bytes}
use Rattle.page_print.specs.Print.{part_text}
use Rattle.page_print.proofs.lines.push_parts.Given as goal

-- the parts so far are printed
abbrev pub invariant-loop-part : goal.invariant-loop-part
invariant-loop-part l = string_bytes l.out ≡ string_bytes l.initial.out ++ flat_map part_text (take l.part-index l.parts)
