use Rattle.std.proofs.Common.{◌≡◌, ◌+◌, ◌-◌, ◌<◌, ◌++◌, length, take, drop, get_or, sym, ap, ◌∙◌, subst, arith}
use Rattle.std.proofs.lemmas.List.{append-nil}
use Rattle.result_origin.specs.declared.pages.Run.{Run}
use Rattle.line_fill.specs.Clusters.{clusters_in, edge}
use Rattle.line_fill.specs.Parts.{part_in, parts_from}
use Rattle.line_fill.proofs.Parting.{parts_step, parts_past, none_from, edge_more, edge_within, run_clusters}
use Rattle.line_fill.proofs.parts.parts.Goals as goal

pub loop-place-init : goal.loop-place-init
loop-place-init c = record {
  within = c.requires.first;
  parts = ap (λ parts. parts ++ parts_from c.args.span (edge c.args.runs.now c.args.first) (drop c.args.first c.args.runs.now)) c.new-parts.ensures
      ∙ parts_past c.args.span c.args.runs.now c.args.first c.requires.first
      (λ run lt. subst (λ n. n < c.args.span.from) (c.requires.edges.each (run + 1) (omega (arith, c.requires.first, lt))) (c.requires.passed run lt));
}

pub returns-then-low-span : goal.returns-then-low-span
returns-then-low-span c =
    let low : get_or c.as_slice-edges.result.now c.loop-place.place 0 ≡ edge c.args.runs.now c.loop-place.place
    = ap (λ edges. get_or edges c.loop-place.place 0) c.as_slice-edges.ensures ∙ c.requires.edges.each c.loop-place.place c.loop-place.invariant.within in
    let none = none_from c.args.span (edge c.args.runs.now c.loop-place.place) (drop c.loop-place.place c.args.runs.now) (omega arith)
    (subst (λ n. c.args.span.next < n) low c.if-low-span.true) in
    sym (append-nil c.loop-place.parts) ∙ (ap (λ parts. c.loop-place.parts ++ parts) (sym none) ∙ c.loop-place.invariant.parts)

pub add_part-requires-clause-end : goal.add_part-requires-clause-end
add_part-requires-clause-end c =
    let run : Run = c.index-runs-place.result in
    let low : get_or c.as_slice-edges.result.now c.loop-place.place 0 ≡ edge c.args.runs.now c.loop-place.place
    = ap (λ edges. get_or edges c.loop-place.place 0) c.as_slice-edges.ensures ∙ c.requires.edges.each c.loop-place.place c.loop-place.invariant.within in
    let high : get_or c.as_slice-edges.result.now (c.loop-place.place + 1) 0 ≡ edge c.args.runs.now (c.loop-place.place + 1)
    = ap (λ edges. get_or edges (c.loop-place.place + 1) 0) c.as_slice-edges.ensures ∙ c.requires.edges.each (c.loop-place.place + 1) (omega arith) in
    high
    ∙ (edge_more c.args.runs.now c.loop-place.place run c.loop-place-test.true
    ∙ (λ i. sym low i + length (clusters_in (sym c.index-runs-place.is i))))

pub add_part-requires-clause-within : goal.add_part-requires-clause-within
add_part-requires-clause-within c =
    let high : get_or c.as_slice-edges.result.now (c.loop-place.place + 1) 0 ≡ edge c.args.runs.now (c.loop-place.place + 1)
    = ap (λ edges. get_or edges (c.loop-place.place + 1) 0) c.as_slice-edges.ensures ∙ c.requires.edges.each (c.loop-place.place + 1) (omega arith) in
    omega (arith, high, edge_within c.args.runs.now c.loop-place.place c.index-runs-place.result c.loop-place-test.true, ap length (c.as_slice-clusters.ensures ∙ c.requires.clusters))

pub add_part-requires-clause-clusters : goal.add_part-requires-clause-clusters
add_part-requires-clause-clusters c =
    let run : Run = c.index-runs-place.result in
    let low : get_or c.as_slice-edges.result.now c.loop-place.place 0 ≡ edge c.args.runs.now c.loop-place.place
    = ap (λ edges. get_or edges c.loop-place.place 0) c.as_slice-edges.ensures ∙ c.requires.edges.each c.loop-place.place c.loop-place.invariant.within in
    let high : get_or c.as_slice-edges.result.now (c.loop-place.place + 1) 0 ≡ edge c.args.runs.now (c.loop-place.place + 1)
    = ap (λ edges. get_or edges (c.loop-place.place + 1) 0) c.as_slice-edges.ensures ∙ c.requires.edges.each (c.loop-place.place + 1) (omega arith) in
    (λ i. take (high i - low i) (drop (low i) ((c.as_slice-clusters.ensures ∙ c.requires.clusters) i)))
    ∙ (run_clusters c.args.runs.now c.loop-place.place run c.loop-place-test.true ∙ ap clusters_in (sym c.index-runs-place.is))

pub loop-place-preserved : goal.loop-place-preserved
loop-place-preserved c =
    let run : Run = c.index-runs-place.result in
    let low : get_or c.as_slice-edges.result.now c.loop-place.place 0 ≡ edge c.args.runs.now c.loop-place.place
    = ap (λ edges. get_or edges c.loop-place.place 0) c.as_slice-edges.ensures ∙ c.requires.edges.each c.loop-place.place c.loop-place.invariant.within in
    record {
      within = omega arith;
      parts = parts_step c.args.span c.args.runs.now c.loop-place.place run c.loop-place.parts c.add_part.new.parts (parts_from c.args.span 0 c.args.runs.now) c.loop-place-test.true
          (c.in_ok-add_part.ensures ∙ (λ i. c.loop-place.parts ++ part_in c.args.span (low i) (c.index-runs-place.is i))) c.loop-place.invariant.parts;
    }
