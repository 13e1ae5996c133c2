use Rattle.std.proofs.Common.{◌≡◌, ◌≤◌, pos, List, length, map, sym, ap, subst, ◌∙◌, arith, rules, w64, [], ◌∷◌, ◌++◌}
use Rattle.std.specs.List.{filter}
use Rattle.std.proofs.lemmas.Int.{to_z_pos}
use Rattle.fo_tables.specs.Sizes.{most}
use Rattle.fo_tables.specs.Heights.{TallCell, tall_cells, ends_in, heights_of}
use Rattle.fo_tables.specs.Needs.{need_of}
use Rattle.fo_tables.proofs.Buckets.{tall_spans, row_needs, needs_above, row_fits, one_row_more, found_more}
use Rattle.fo_tables.proofs.heights.row_heights.Goals as goal

pub row_height-height-requires : goal.row_height-height-requires
row_height-height-requires c =
    let tall : List TallCell = tall_cells c.args.cells.now c.args.heights.now in
    let needs : c.as_slice.result.now ≡ map need_of (filter (ends_in c.loop-needs.needs-index) tall)
    = row_needs tall c.args.rows c.in_ok-ending.ending.items c.deref-needs-items.result.now c.loop-needs.needs-index c.as_slice.result.now c.needs-item.result
    c.in_ok-ending.ensures c.deref-needs-items.ensures.value c.loop-needs-test.true c.needs-item.is c.as_slice.ensures in
    needs_above tall c.args.rows c.loop-needs.needs-index c.as_slice-in-loop-needs.result.now c.as_slice.result.now
    (tall_spans c.args.rows c.args.cells.now c.args.heights.now c.requires.spans c.requires.within) (c.as_slice-in-loop-needs.ensures ∙ c.loop-needs.invariant.earlier) needs

pub overflow_cast-height : goal.overflow_cast-height
overflow_cast-height c =
    let tall : List TallCell = tall_cells c.args.cells.now c.args.heights.now in
    let needs : c.as_slice.result.now ≡ map need_of (filter (ends_in c.loop-needs.needs-index) tall)
    = row_needs tall c.args.rows c.in_ok-ending.ending.items c.deref-needs-items.result.now c.loop-needs.needs-index c.as_slice.result.now c.needs-item.result
    c.in_ok-ending.ensures c.deref-needs-items.ensures.value c.loop-needs-test.true c.needs-item.is c.as_slice.ensures in
    let bound : c.row_height-height.result ≤ 1_000_000_000_000_000_000
    = subst (λ n. n ≤ most) (sym c.row_height-height.ensures)
    (row_fits tall c.loop-needs.needs-index c.as_slice-in-loop-needs.result.now c.as_slice.result.now (c.as_slice-in-loop-needs.ensures ∙ c.loop-needs.invariant.earlier) needs) in
    search rules

pub loop-needs-preserved : goal.loop-needs-preserved
loop-needs-preserved c =
    let tall : List TallCell = tall_cells c.args.cells.now c.args.heights.now in
    let needs : c.as_slice.result.now ≡ map need_of (filter (ends_in c.loop-needs.needs-index) tall)
    = row_needs tall c.args.rows c.in_ok-ending.ending.items c.deref-needs-items.result.now c.loop-needs.needs-index c.as_slice.result.now c.needs-item.result
    c.in_ok-ending.ensures c.deref-needs-items.ensures.value c.loop-needs-test.true c.needs-item.is c.as_slice.ensures in
    let bound : c.row_height-height.result ≤ 1_000_000_000_000_000_000
    = subst (λ n. n ≤ most) (sym c.row_height-height.ensures)
    (row_fits tall c.loop-needs.needs-index c.as_slice-in-loop-needs.result.now c.as_slice.result.now (c.as_slice-in-loop-needs.ensures ∙ c.loop-needs.invariant.earlier) needs) in
    record {
      earlier = one_row_more tall c.loop-needs.needs-index c.loop-needs.earlier c.push.new.self c.as_slice-in-loop-needs.result.now c.as_slice.result.now c.row_height-height.result
          c.loop-needs.invariant.earlier c.as_slice-in-loop-needs.ensures needs c.row_height-height.ensures c.in_ok-push.ensures.ok;
      found = found_more c.loop-needs.earlier c.push.new.self c.loop-needs.found c.push-in-loop-needs.new.self c.row_height-height.result
          c.loop-needs.invariant.found (c.in_ok-push-2.ensures.ok ∙ ap (λ height. c.loop-needs.found ++ height ∷ []) (to_z_pos w64 c.row_height-height.result (omega arith))) c.in_ok-push.ensures.ok;
    }

pub returns : goal.returns
returns c =
    let tall : List TallCell = tall_cells c.args.cells.now c.args.heights.now in
    let long : length c.deref-needs-items.result.now ≡ c.args.rows = ap length c.deref-needs-items.ensures.value ∙ c.in_ok-ending.ensures.rows_are in
    let all : c.loop-needs.needs-index ≡ c.args.rows = omega arith in
    c.loop-needs.invariant.found ∙ ap (map pos) (c.loop-needs.invariant.earlier ∙ ap (heights_of tall) all)
