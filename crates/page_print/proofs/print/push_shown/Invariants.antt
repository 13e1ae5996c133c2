-- what the lines so far show
use Rattle.std.proofs.Common.{◌≡◌, ◌++◌, take}
use Rattle.std.specs.List.{flat_map}
use Rattle.std.specs.String.{string_bytes}
use Rattle.page_print.specs.Print.{line_shown}
use Rattle.page_print.proofs.print.push_shown.Given as goal

abbrev pub invariant-loop-line : goal.invariant-loop-line
invariant-loop-line l = string_bytes l.out ≡ string_bytes l.initial.out ++ flat_map line_shown (take l.line-index l.lines)
