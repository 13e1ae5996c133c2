use Rattle.std.proofs.Common.{take}
use Rattle.frozen_tree.specs.Frozen.{cells_of}
use Rattle.source_steps.specs.Differences.{IsDifference}
use Rattle.source_steps.proofs.difference.Difference.between.Given as goal

abbrev pub invariant-loop-cell : goal.invariant-loop-cell
invariant-loop-cell l = IsDifference (cells_of l.old) (cells_of l.new) (take l.cell-index l.cells) l.difference
