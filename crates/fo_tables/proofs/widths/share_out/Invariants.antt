use Rattle.std.proofs.Common.{◌≡◌, ◌++◌, ◌+◌, drop, map, pos}
use Rattle.fo_tables.specs.Widths.{fixed_width, cut_share, with_rest}
use Rattle.fo_tables.proofs.widths.share_out.Given as goal

-- the widths so far, with those of the columns that are left, are those of all
abbrev pub invariant-loop-place : goal.invariant-loop-place
invariant-loop-place l =
    l.widths ++ map pos (with_rest (λ column. fixed_width l.table column + cut_share l.left l.shares column) l.rest (drop l.place l.columns))
    ≡ map pos (with_rest (λ column. fixed_width l.table column + cut_share l.left l.shares column) l.rest l.columns)
