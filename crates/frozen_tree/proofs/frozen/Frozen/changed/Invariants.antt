-- The changes so far are made, one after another.
use Rattle.std.proofs.Common.{◌≡◌, take}
use Rattle.serna_kinds.specs.declared.cells.Cell.{Cell}
use Rattle.frozen_tree.specs.Frozen.{cells_of, stamps_of}
use Rattle.frozen_tree.specs.Maps.{changed_by, stamped_if}
use Rattle.frozen_tree.proofs.frozen.Frozen.changed.Given as goal

abbrev pub invariant-loop-change : goal.invariant-loop-change
invariant-loop-change l = record {
  content : (cell : Cell) → cells_of l.top cell ≡ changed_by (take l.change-index l.changes) (cells_of l.fn.self) cell;
  stamps : (cell : Cell) → stamps_of l.top cell ≡ stamped_if l.revision (take l.change-index l.changes) (stamps_of l.fn.self) cell;
}
