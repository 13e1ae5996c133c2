use Rattle.std.proofs.Common.{ℕ, ◌+◌, ◌<◌, get_or}
use Rattle.line_fill.proofs.parts.first_run.Given as goal

-- the runs so far end before the cluster
abbrev pub invariant-loop-run : goal.invariant-loop-run
invariant-loop-run l = (run : ℕ) → run < l.run → get_or l.edges (run + 1) 0 < l.from
