use Rattle.std.proofs.Common.{◌≡◌, map, take}
use Rattle.simple_pages.specs.Pages.{whole_part}
use Rattle.simple_pages.specs.Shown.{shown_of}
use Rattle.simple_pages.proofs.runs.line_of.Given as goal

-- the parts of the runs so far
abbrev pub invariant-loop-run : goal.invariant-loop-run
invariant-loop-run l = l.parts ≡ map whole_part (map shown_of (take l.run-index l.runs))
