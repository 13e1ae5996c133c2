use Rattle.std.proofs.Common.{ℕ, ◌≤◌, ◌<◌, ◌+◌, get_or, sym, subst, arith}
use Rattle.fo_tables.proofs.Taken.{free_more, past_one}
use Rattle.fo_tables.proofs.cells.first_fit.Goals as goal
use Rattle.fo_tables.proofs.cells.first_fit.Goals.{then-until-column, else-until-column}

pub loop-column-preserved : goal.loop-column-preserved
loop-column-preserved c =
    let near : c.loop-column.column < c.loop-column.first + c.args.count = omega arith in
    elim c.if-until-column.branch [
      | then-until-column w ↦
          let taken : c.args.row < get_or c.args.until.now c.loop-column.column 0 = omega arith in
          record {
            behind = omega arith;
            reached = omega arith;
            short = omega arith;
            free = λ k le lt. absurd (omega arith);
            first = subst (λ n. (start : ℕ) → c.args.from ≤ start → start < n → (k : ℕ) × (start ≤ k) × (k < start + c.args.count) × (c.args.row < get_or c.args.until.now k 0)) (sym w.first-is)
                (past_one c.args.until.now c.args.row c.args.from c.loop-column.first c.args.count c.loop-column.column c.loop-column.invariant.first near taken);
          }
      | else-until-column w ↦
          let free : get_or c.args.until.now c.loop-column.column 0 ≤ c.args.row = omega arith in
          record {
            behind = omega arith;
            reached = omega arith;
            short = omega arith;
            free = subst (λ n. (k : ℕ) → n ≤ k → k < c.loop-column.column + 1 → get_or c.args.until.now k 0 ≤ c.args.row) (sym w.first-is)
                (free_more c.args.until.now c.args.row c.loop-column.first c.loop-column.column c.loop-column.invariant.free free);
            first = subst (λ n. (start : ℕ) → c.args.from ≤ start → start < n → (k : ℕ) × (start ≤ k) × (k < start + c.args.count) × (c.args.row < get_or c.args.until.now k 0)) (sym w.first-is) c.loop-column.invariant.first;
          }
    ]
