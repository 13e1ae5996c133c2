-- The lines so far are read.
use Rattle.tree_lines.specs.Reading.{IsReading}
use Rattle.tree_lines.proofs.read.read_lines.Given as goal

abbrev pub invariant-loop-place : goal.invariant-loop-place
invariant-loop-place l = IsReading l.spaces l.lines l.place l.reader l.initial.names l.names
