use Rattle.std.proofs.Common.{◌≡◌, ◌-◌, ◌≤◌, vec_len}
use Rattle.fo_tables.specs.Needs.{empty_rows}
use Rattle.fo_tables.proofs.heights.no_needs.Given as goal

-- no row so far has a cell
abbrev pub invariant-rows : goal.invariant-rows
invariant-rows l = record {
  within : vec_len l.ending ≤ l.rows;
  empty : l.ending.items ≡ empty_rows (vec_len l.ending);
}

abbrev pub decreases-rows : goal.decreases-rows
decreases-rows l = l.rows - vec_len l.ending
