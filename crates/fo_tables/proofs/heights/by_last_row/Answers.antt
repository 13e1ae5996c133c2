use Rattle.std.proofs.Common.{◌+◌, ◌-◌, ◌<◌, ◌≤◌, pos, List, [], length, get_or, map, ap, ◌∙◌, arith, rules, w64}
use mir.Val.{SFits}
use Rattle.std.specs.List.{filter}
use Rattle.std.proofs.lemmas.List.{length-set, length-replicate, take_all, get_or_default}
use Rattle.std.proofs.lemmas.Int.{to_z-of_z}
use Rattle.fo_tables.specs.declared.cells.GridCell.{GridCell}
use Rattle.fo_tables.specs.declared.heights.Need.{Need}
use Rattle.fo_tables.specs.Sizes.{size}
use Rattle.fo_tables.specs.Cells.{IsSpan}
use Rattle.fo_tables.specs.Heights.{tall_cells, ends_in}
use Rattle.fo_tables.specs.Needs.{need_of}
use Rattle.fo_tables.proofs.Buckets.{none_yet, length-tall_cells, bucket_pushed}
use Rattle.fo_tables.proofs.heights.by_last_row.Goals as goal

pub loop-place-init : goal.loop-place-init
loop-place-init c = record {
  rows_are = ap length c.in_ok-ending.ensures ∙ length-replicate {A = List Need} c.args.rows [];
  needs = λ row lt. ap (λ (ending : List (List Need)). get_or ending row []) c.in_ok-ending.ensures ∙ none_yet c.args.rows row;
}

pub loop-place-preserved : goal.loop-place-preserved
loop-place-preserved c =
    let none : GridCell = record { row = 0; column = 0; span = record { columns = 0; rows = 0 } } in
    let cell : GridCell = get_or c.args.cells.now c.loop-place.place none in
    let is : IsSpan cell.span = c.requires.spans c.loop-place.place none c.loop-place-test.true in
    let some : 1 ≤ cell.span.rows = is.some_rows in
    let within : cell.row + cell.span.rows ≤ c.args.rows = c.requires.within c.loop-place.place none c.loop-place-test.true in
    let last : cell.row + cell.span.rows - 1 < length c.loop-place.ending.items = omega (arith, c.loop-place.invariant.rows_are) in
    let fits : SFits w64 (get_or c.args.heights.now c.loop-place.place (pos 0)) = search rules in
    record {
      rows_are = length-set c.loop-place.ending.items (cell.row + cell.span.rows - 1) c.push.new.self ∙ c.loop-place.invariant.rows_are;
      needs = bucket_pushed c.args.cells.now c.args.heights.now c.loop-place.ending.items c.loop-place.place c.args.rows (cell.row + cell.span.rows - 1) none (pos 0) c.size.result c.index_mut.result.now c.push.new.self
          c.loop-place-test.true c.requires.heights (omega arith) c.loop-place.invariant.rows_are (omega arith) (c.size.ensures ∙ ap size (to_z-of_z w64 (get_or c.args.heights.now c.loop-place.place (pos 0)) fits))
          (c.index_mut.ensures.value ∙ get_or_default c.loop-place.ending.items (cell.row + cell.span.rows - 1) c.index_mut.result.now [] last) c.in_ok-push.ensures.ok c.loop-place.invariant.needs;
    }

pub returns : goal.returns
returns c = record {
  rows_are = c.loop-place.invariant.rows_are;
  needs = λ row lt.
      c.loop-place.invariant.needs row lt
      ∙ ap (λ tall. map need_of (filter (ends_in row) tall))
      (take_all c.loop-place.place (tall_cells c.args.cells.now c.args.heights.now) (omega (arith, length-tall_cells c.args.cells.now c.args.heights.now c.requires.heights)));
}
