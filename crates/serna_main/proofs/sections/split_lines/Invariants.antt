use Rattle.std.proofs.Common.{◌≡◌, ◌+◌, ◌≤◌, ◌++◌, length}
use Rattle.plain_editor.specs.Input.{lines_of, input_limit}
use Rattle.serna_main.specs.Lines.{numbered_lines}
use Rattle.serna_main.proofs.sections.split_lines.Given as goal

-- the lines so far, with those of the rest, are all
abbrev pub invariant-lines : goal.invariant-lines
invariant-lines l = (l.lines.items ++ numbered_lines l.number (lines_of l.rest) ≡ numbered_lines 1 (lines_of l.bytes)) × (l.number + length l.rest ≤ input_limit + 1)

abbrev pub decreases-lines : goal.decreases-lines
decreases-lines l = length l.rest
