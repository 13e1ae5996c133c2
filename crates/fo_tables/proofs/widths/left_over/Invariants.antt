use Rattle.std.proofs.Common.{◌≡◌, ◌-◌, take}
use Rattle.std.specs.List.{sum_by}
use Rattle.fo_tables.specs.Widths.{fixed_width}
use Rattle.fo_tables.proofs.widths.left_over.Given as goal

-- the columns so far have taken their widths
abbrev pub invariant-loop-column : goal.invariant-loop-column
invariant-loop-column l = l.left ≡ l.fn.table - sum_by (fixed_width l.fn.table) (take l.column-index l.columns)
