use Rattle.std.proofs.Common.{◌≡◌, ◌≤◌, ◌++◌, drop, length}
use Rattle.line_fill.specs.Clusters.{edge}
use Rattle.line_fill.specs.Parts.{parts_from}
use Rattle.line_fill.proofs.parts.parts.Given as goal

-- the parts so far, with those of the runs that are left, are the line's
abbrev pub invariant-loop-place : goal.invariant-loop-place
invariant-loop-place l = record {
  within : l.place ≤ length l.runs;
  parts : l.parts ++ parts_from l.span (edge l.runs l.place) (drop l.place l.runs) ≡ parts_from l.span 0 l.runs;
}
