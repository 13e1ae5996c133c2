-- Tables of clusters, heights, and the lines one after another.
use Rattle.std.proofs.Common.{◌≡◌, ℕ, zero, suc, ◌+◌, ◌-◌, ◌<◌, ◌≤◌, ℤ, Bool, true, cond, ◌||◌, ltb, List, [], ◌∷◌, ◌++◌, length, map, take, get_or, sym, ap, ◌∙◌, inl, inr, arith, append_assoc}
use Rattle.std.specs.List.{fold}
use Rattle.std.specs.Int.{int_max}
use Rattle.std.proofs.lemmas.Bool.{cases_lt}
use Rattle.std.proofs.lemmas.Bool.Decides.{nat_tests}
use Rattle.std.proofs.lemmas.List.{append-nil, map-append, take_more, get_or_append_left, get_or_push}
use Rattle.std.proofs.lemmas.List.Concat.{flat_map-append}
use Rattle.std.proofs.lemmas.List.Sums.{fold_push}
use Rattle.result_origin.specs.declared.pages.Run.{Run}
use Rattle.result_origin.specs.declared.pages.Line.{Line}
use Rattle.result_origin.specs.Pages.{PartValue}
use Rattle.line_fill.specs.declared.para.Para.{Para}
use Rattle.line_fill.specs.declared.clusters.Cluster.{Cluster}
use Rattle.line_fill.specs.declared.spans.Span.{Span}
use Rattle.line_fill.specs.Clusters.{clusters_in, all_clusters, edge}
use Rattle.line_fill.specs.Spans.{goes_on, span_at, spans_from}
use Rattle.line_fill.specs.Lines.{height_of, room_at, line_of, lines_of}

-- ---- the table of clusters, run by run

pub clusters_more : (runs : List Run) (i : ℕ) (d : Run) → i < length runs → all_clusters (take (i + 1) runs) ≡ all_clusters (take i runs) ++ clusters_in (get_or runs i d)
clusters_more runs i d lt =
    ap all_clusters (take_more runs i d lt)
    ∙ (flat_map-append clusters_in (take i runs) (get_or runs i d ∷ []) ∙ ap (λ cs. all_clusters (take i runs) ++ cs) (append-nil (clusters_in (get_or runs i d))))

pub edges_more : (runs : List Run) (i : ℕ) (old new : List ℕ) (last : ℕ) → length old ≡ i + 1 → new ≡ old ++ last ∷ [] → last ≡ edge runs (i + 1) → ((run : ℕ) → run ≤ i → get_or old run 0 ≡ edge runs run) →
    (run : ℕ) → run ≤ i + 1 → get_or new run 0 ≡ edge runs run
edges_more runs i old new last long is end each run le =
    ap (λ edges. get_or edges run 0) is
    ∙ elim (cases_lt run (i + 1)) [
      | inl before ↦ get_or_append_left old (last ∷ []) 0 run (omega arith) ∙ each run (omega arith)
      | inr past ↦
          let same : run ≡ i + 1 = omega arith in
          get_or_push old last 0 run (omega arith) ∙ (end ∙ ap (edge runs) (sym same))
    ]

-- ---- the height of a line, part by part

pub higher : (least : ℤ) (parts : List PartValue) (i : ℕ) (d : PartValue) → i < length parts → height_of least (take (i + 1) parts) ≡ int_max (height_of least (take i parts)) (get_or parts i d).run.line_height
higher least parts i d lt =
    let height : PartValue → ℤ = λ part. part.run.line_height in
    ap (height_of least) (take_more parts i d lt)
    ∙ (ap (fold int_max least) (map-append height (take i parts) (get_or parts i d ∷ []))
    ∙ fold_push int_max least (map height (take i parts)) (get_or parts i d).run.line_height)

-- ---- one line more

spans_step : (room : ℕ → ℕ) (clusters : List Cluster) (count from : ℕ) → from ≤ length clusters → length clusters < from + count →
    spans_from room clusters count from
    ≡ span_at room clusters from ∷ cond (goes_on (length clusters) (span_at room clusters from)) (spans_from room clusters (count - 1) (span_at room clusters from).next) []
spans_step room clusters zero from le lt = absurd (omega arith)
spans_step room clusters (suc n) from le lt =
    let less : n ≡ suc n - 1 = omega arith in
    ap (λ m. span_at room clusters from ∷ cond (goes_on (length clusters) (span_at room clusters from)) (spans_from room clusters m (span_at room clusters from).next) []) less

-- where another line follows, it begins further on
pub steps_on : (all from : ℕ) (span : Span) → from ≤ span.to → span.to ≤ span.next → (from < all → from < span.next) → goes_on all span ≡ true → from < span.next
steps_on all from span ordered behind some on = by_numbers from span.to span.next all ordered behind some on
  where
    by_numbers : (from to next all : ℕ) → from ≤ to → to ≤ next → (from < all → from < next) → (ltb to next || ltb next all) ≡ true → from < next
    by_numbers from to next all ordered behind some on =
        elim (cases_lt from next) [
          | inl lt ↦ lt
          | inr le ↦ some (left from to next all ordered behind le on)
        ]
      where
        left : (from to next all : ℕ) → from ≤ to → to ≤ next → next ≤ from → (ltb to next || ltb next all) ≡ true → from < all
        left from to next all ordered behind le on = grind (arith, nat_tests)

pub lines_begin : (para : Para) (clusters : List Cluster) (lines : List Line) → lines ≡ [] → clusters ≡ all_clusters para.runs →
    lines ++ map (line_of para) (spans_from (room_at para) (all_clusters para.runs) (suc (length clusters)) 0) ≡ lines_of para
unfolding lines_of
lines_begin para clusters lines none same =
    ap (λ ls. ls ++ map (line_of para) (spans_from (room_at para) (all_clusters para.runs) (suc (length clusters)) 0)) none
    ∙ ap (λ n. map (line_of para) (spans_from (room_at para) (all_clusters para.runs) (suc n) 0)) (ap length same)

pub line_more : (para : Para) (clusters : List Cluster) (count from : ℕ) (span : Span) (old new : List Line) (on : Bool) → from ≤ length clusters → length clusters < from + count → clusters ≡ all_clusters para.runs →
    span ≡ span_at (room_at para) clusters from → new ≡ old ++ line_of para span ∷ [] → on ≡ goes_on (length clusters) span →
    old ++ map (line_of para) (spans_from (room_at para) (all_clusters para.runs) count from) ≡ lines_of para →
    new ++ map (line_of para) (cond on (spans_from (room_at para) (all_clusters para.runs) (count - 1) span.next) []) ≡ lines_of para
line_more para clusters count from span old new on le lt same here is goes was =
    let rest : List Span = cond on (spans_from (room_at para) clusters (count - 1) span.next) [] in
    let step : spans_from (room_at para) clusters count from ≡ span ∷ rest
    = spans_step (room_at para) clusters count from le lt
    ∙ (λ i. sym here i ∷ cond (goes_on (length clusters) (sym here i)) (spans_from (room_at para) clusters (count - 1) (sym here i).next) [])
    ∙ ap (λ b. span ∷ cond b (spans_from (room_at para) clusters (count - 1) span.next) []) (sym goes) in
    ap (λ cs. new ++ map (line_of para) (cond on (spans_from (room_at para) cs (count - 1) span.next) [])) (sym same)
    ∙ (ap (λ ls. ls ++ map (line_of para) rest) is
    ∙ (append_assoc old (line_of para span ∷ []) (map (line_of para) rest)
    ∙ (ap (λ ss. old ++ map (line_of para) ss) (sym step)
    ∙ (ap (λ cs. old ++ map (line_of para) (spans_from (room_at para) cs count from)) same ∙ was))))
