use Rattle.std.proofs.Common.{◌≡◌, ◌+◌, ◌++◌, drop}
use Rattle.std.specs.String.{string_bytes}
use Rattle.page_print.specs.Print.{lines_text}
use Rattle.page_print.proofs.lines.push_lines.Given as goal

-- the lines so far, with those that are left, are all; and the number of the next one
abbrev pub invariant-loop-line : goal.invariant-loop-line
invariant-loop-line l = record {
  number : l.number ≡ l.line-index + 1;
  so_far : string_bytes l.out ++ lines_text l.number (drop l.line-index l.lines) ≡ string_bytes l.initial.out ++ lines_text 1 l.lines;
}
