use Rattle.std.proofs.Common.{ℕ, ◌<◌, ◌≤◌, length, get_or, refl, sym, ap, ◌∙◌, subst, arith}
use Rattle.std.proofs.lemmas.List.{length-set, length-replicate}
use Rattle.std.proofs.lemmas.List.Sums.{fold_more}
use Rattle.fo_tables.specs.declared.cells.Span.{Span}
use Rattle.fo_tables.specs.Cells.{IsSpan, with_cell}
use Rattle.fo_tables.proofs.Taken.{zeros, all_zero, none_searched, searched_more, reach_more}
use Rattle.fo_tables.proofs.cells.Filling.fill.Goals as goal

pub loop-span-init : goal.loop-span-init
loop-span-init c = record {
  cells = refl;
  taken = c.requires.taken;
  searched = none_searched c.args.self.now.cells c.args.row (zeros 101) (all_zero 101);
  reach = λ count. subst (λ n. n ≤ length c.args.self.now.until) (sym (all_zero 101 count)) (omega arith);
  long = length-replicate {A = ℕ} 101 0;
}

pub place-requires-clause-span : goal.place-requires-clause-span
place-requires-clause-span c = c.requires.spans c.loop-span.span-index (record { columns = 0; rows = 0 }) c.loop-span-test.true

pub loop-span-preserved : goal.loop-span-preserved
loop-span-preserved c =
    let none : Span = record { columns = 0; rows = 0 } in
    let span : Span = get_or c.args.spans.now c.loop-span.span-index none in
    let is : IsSpan span = c.requires.spans c.loop-span.span-index none c.loop-span-test.true in
    let columns : span.columns ≤ 100 = is.most_columns in
    let within : span.columns < length c.loop-span.searched = omega (arith, c.loop-span.invariant.long) in
    record {
      cells = c.in_ok-searched.ensures.cells
          ∙ (ap (λ cells. with_cell c.args.rows_left c.args.row cells span) c.loop-span.invariant.cells
          ∙ sym (fold_more (with_cell c.args.rows_left c.args.row) c.args.self.now.cells c.args.spans.now c.loop-span.span-index none c.loop-span-test.true));
      taken = c.in_ok-searched.ensures.taken;
      searched = searched_more c.loop-span.self.cells c.place.new.self.cells c.args.row c.args.rows_left span c.loop-span.searched c.in_ok-searched.field-0
          c.loop-span.invariant.searched within c.in_ok-searched.ensures.column c.in_ok-searched.ensures.cells;
      reach = reach_more c.loop-span.searched span.columns c.in_ok-searched.field-0 (length c.loop-span.self.until) (length c.place.new.self.until)
          c.loop-span.invariant.reach c.in_ok-searched.ensures.grows c.in_ok-searched.ensures.within within;
      long = length-set c.loop-span.searched span.columns c.in_ok-searched.field-0 ∙ c.loop-span.invariant.long;
    }
