use Rattle.std.proofs.Common.{◌≡◌, suc, ◌+◌, ◌-◌, ◌<◌, [], ◌∷◌, ◌++◌, true, false, length, drop, get_or, sym, ap, ◌∙◌, subst, arith}
use Rattle.std.proofs.lemmas.List.{append-nil}
use Rattle.line_fill.specs.Clusters.{all_clusters}
use Rattle.line_fill.specs.Cuts.{cut_of}
use Rattle.line_fill.specs.Spans.{span_of, goes_on, span_at}
use Rattle.line_fill.specs.Lines.{room_at}
use Rattle.line_fill.proofs.Filled.{steps_on, lines_begin, line_more}
use Rattle.line_fill.proofs.filling.lines.Goals as goal

pub lines-init : goal.lines-init
lines-init c = record {
  within = omega arith;
  first = omega arith;
  passed = λ run lt. absurd (omega arith);
  lines = (
    suc (length c.in_ok-table.table.clusters),
    omega arith,
    lines_begin c.args.para.now c.in_ok-table.table.clusters c.new-lines.result c.new-lines.ensures (c.in_ok-table.ensures.clusters ∙ ap all_clusters c.as_slice.ensures),
  );
}

pub returns-then-not-goes_on : goal.returns-then-not-goes_on
returns-then-not-goes_on c =
    let same = c.in_ok-table.ensures.clusters ∙ ap all_clusters c.as_slice.ensures in
    let here : c.span_at-span.result ≡ span_at (room_at c.args.para.now) c.in_ok-table.table.clusters c.lines.from
    = c.span_at-span.ensures.value ∙ (λ i. span_of c.lines.from (cut_of (c.room_at.ensures.value i) (drop c.lines.from (c.as_slice-in-lines.ensures i)))) in
    let off : false ≡ goes_on (length c.in_ok-table.table.clusters) c.span_at-span.result
    = sym c.if-not-goes_on.true ∙ (c.goes_on.ensures ∙ ap (λ n. goes_on n c.span_at-span.result) c.len-all.ensures) in
    sym (append-nil c.push.new.self)
    ∙ line_more c.args.para.now c.in_ok-table.table.clusters c.lines.invariant.lines.0 c.lines.from c.span_at-span.result c.lines.lines c.push.new.self false
    c.lines.invariant.within c.lines.invariant.lines.1 same here (c.in_ok-push.ensures.ok ∙ ap (λ line. c.lines.lines ++ line ∷ []) c.in_ok-line.ensures) off c.lines.invariant.lines.2

pub lines-preserved : goal.lines-preserved
lines-preserved c =
    let same = c.in_ok-table.ensures.clusters ∙ ap all_clusters c.as_slice.ensures in
    let here : c.span_at-span.result ≡ span_at (room_at c.args.para.now) c.in_ok-table.table.clusters c.lines.from
    = c.span_at-span.ensures.value ∙ (λ i. span_of c.lines.from (cut_of (c.room_at.ensures.value i) (drop c.lines.from (c.as_slice-in-lines.ensures i)))) in
    let on : true ≡ goes_on (length c.in_ok-table.table.clusters) c.span_at-span.result
    = sym c.if-not-goes_on.false ∙ (c.goes_on.ensures ∙ ap (λ n. goes_on n c.span_at-span.result) c.len-all.ensures) in
    let whole : length c.as_slice-in-lines.result.now ≡ length c.in_ok-table.table.clusters = ap length c.as_slice-in-lines.ensures in
    let further : c.lines.from < c.span_at-span.result.next
    = steps_on (length c.in_ok-table.table.clusters) c.lines.from c.span_at-span.result c.span_at-span.ensures.ordered c.span_at-span.ensures.behind
    (λ lt. c.span_at-span.ensures.some (omega (arith, lt, whole))) (sym on) in
    record {
      within = omega (arith, whole, c.span_at-span.ensures.within);
      first = omega (arith, c.first_run-first.ensures.within, ap length c.as_slice-in-lines-2.ensures, c.in_ok-table.ensures.edges.all, ap length c.as_slice.ensures);
      passed = λ run lt.
          let before : get_or c.in_ok-table.table.edges (run + 1) 0 < c.lines.from
          = subst (λ edges. get_or edges (run + 1) 0 < c.lines.from) c.as_slice-in-lines-2.ensures (c.first_run-first.ensures.passed run lt) in
          omega (arith, before, further);
      lines = (
        c.lines.invariant.lines.0 - 1,
        omega (arith, c.lines.invariant.lines.1, c.lines.invariant.within, further),
        line_more c.args.para.now c.in_ok-table.table.clusters c.lines.invariant.lines.0 c.lines.from c.span_at-span.result c.lines.lines c.push.new.self true
            c.lines.invariant.within c.lines.invariant.lines.1 same here (c.in_ok-push.ensures.ok ∙ ap (λ line. c.lines.lines ++ line ∷ []) c.in_ok-line.ensures) on c.lines.invariant.lines.2,
      );
    }
