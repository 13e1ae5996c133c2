use Rattle.std.proofs.Common.{◌≡◌, ◌≤◌, ◌*◌, take}
use Rattle.std.specs.List.{sum_by}
use Rattle.fo_tables.specs.Widths.{share_of}
use Rattle.fo_tables.proofs.widths.shares_in.Given as goal

-- the numbers of the columns so far
abbrev pub invariant-loop-column : goal.invariant-loop-column
invariant-loop-column l = record {
  sum : l.shares ≡ sum_by share_of (take l.column-index l.columns);
  bound : l.shares ≤ 9999 * l.column-index;
}
