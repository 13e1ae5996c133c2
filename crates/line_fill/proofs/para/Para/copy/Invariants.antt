use Rattle.std.proofs.Common.{◌≡◌, take}
use Rattle.line_fill.proofs.para.Para.copy.Given as goal

-- the runs so far are copied
abbrev pub invariant-loop-run : goal.invariant-loop-run
invariant-loop-run l = l.runs ≡ take l.run-index l.run-items
