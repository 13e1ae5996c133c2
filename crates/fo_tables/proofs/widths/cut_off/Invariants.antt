use Rattle.std.proofs.Common.{◌≡◌, ◌-◌, take}
use Rattle.std.specs.List.{sum_by}
use Rattle.fo_tables.specs.Widths.{cut_share}
use Rattle.fo_tables.proofs.widths.cut_off.Given as goal

-- the columns so far have taken their shares
abbrev pub invariant-loop-column : goal.invariant-loop-column
invariant-loop-column l = l.rest ≡ l.fn.left - sum_by (cut_share l.fn.left l.fn.shares) (take l.column-index l.columns)
