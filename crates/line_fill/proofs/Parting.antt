-- Which runs have parts in a line, and where each run's clusters stand.
use Rattle.std.proofs.Common.{◌≡◌, ℕ, zero, suc, ◌+◌, ◌-◌, ◌<◌, ◌≤◌, false, cond, ◌&&◌, ◌||◌, eqb, ltb, leb, List, [], ◌∷◌, ◌++◌, length, take, drop, get_or, refl, sym, ap, ◌∙◌, arith, length-append, append_assoc, take_at, drop_at}
use Rattle.std.proofs.lemmas.Bool.Decides.{nat_tests}
use Rattle.std.proofs.lemmas.List.{append-nil, take_more, drop_more, take-append-drop}
use Rattle.std.proofs.lemmas.List.Concat.{flat_map-append}
use Rattle.result_origin.specs.declared.pages.Run.{Run}
use Rattle.result_origin.specs.Pages.{PartValue}
use Rattle.line_fill.specs.declared.clusters.Cluster.{Cluster}
use Rattle.line_fill.specs.declared.spans.Span.{Span}
use Rattle.line_fill.specs.Clusters.{clusters_in, all_clusters, edge}
use Rattle.line_fill.specs.Parts.{part_of, part_in, parts_from}

-- ---- the clusters of one run among all

pub split_at_run : (runs : List Run) (r : ℕ) (d : Run) → r < length runs → all_clusters runs ≡ all_clusters (take r runs) ++ (clusters_in (get_or runs r d) ++ all_clusters (drop (r + 1) runs))
split_at_run runs r d lt =
    ap all_clusters (sym (take-append-drop r runs))
    ∙ (flat_map-append clusters_in (take r runs) (drop r runs) ∙ ap (λ rs. all_clusters (take r runs) ++ all_clusters rs) (drop_more runs r d lt))

pub edge_more : (runs : List Run) (r : ℕ) (d : Run) → r < length runs → edge runs (r + 1) ≡ edge runs r + length (clusters_in (get_or runs r d))
edge_more runs r d lt =
    ap (λ rs. length (all_clusters rs)) (take_more runs r d lt)
    ∙ (ap length (flat_map-append clusters_in (take r runs) (get_or runs r d ∷ []) ∙ ap (λ cs. all_clusters (take r runs) ++ cs) (append-nil (clusters_in (get_or runs r d))))
    ∙ length-append (all_clusters (take r runs)) (clusters_in (get_or runs r d)))

pub edge_within : (runs : List Run) (r : ℕ) (d : Run) → r < length runs → edge runs (r + 1) ≤ length (all_clusters runs)
edge_within runs r d lt =
    omega (arith, edge_more runs r d lt, ap length (split_at_run runs r d lt), length-append (all_clusters (take r runs)) (clusters_in (get_or runs r d) ++ all_clusters (drop (r + 1) runs)), length-append (clusters_in (get_or runs r d)) (all_clusters (drop (r + 1) runs)))

pub run_clusters : (runs : List Run) (r : ℕ) (d : Run) → r < length runs → take (edge runs (r + 1) - edge runs r) (drop (edge runs r) (all_clusters runs)) ≡ clusters_in (get_or runs r d)
run_clusters runs r d lt =
    let behind : List Cluster = clusters_in (get_or runs r d) ++ all_clusters (drop (r + 1) runs) in
    let many : edge runs (r + 1) - edge runs r ≡ length (clusters_in (get_or runs r d)) = omega (arith, edge_more runs r d lt) in
    ap (λ cs. take (edge runs (r + 1) - edge runs r) (drop (edge runs r) cs)) (split_at_run runs r d lt)
    ∙ (ap (take (edge runs (r + 1) - edge runs r)) (drop_at (all_clusters (take r runs)) behind (edge runs r) refl)
    ∙ (ap (λ n. take n behind) many ∙ take_at (clusters_in (get_or runs r d)) (all_clusters (drop (r + 1) runs)) (length (clusters_in (get_or runs r d))) refl))

-- ---- runs without a part

none_before : (from next low high : ℕ) → low ≤ high → high < from →
    cond (eqb low high) (cond (eqb low 0) (eqb from 0) (ltb from low && leb low next)) ((ltb low next && ltb from high) || (eqb from next && eqb from high)) ≡ false
none_before from next low high le lt = grind (arith, nat_tests)

none_behind : (from next low high : ℕ) → from ≤ next → low ≤ high → next < low →
    cond (eqb low high) (cond (eqb low 0) (eqb from 0) (ltb from low && leb low next)) ((ltb low next && ltb from high) || (eqb from next && eqb from high)) ≡ false
none_behind from next low high ordered le lt = grind (arith, nat_tests)

no_part_before : (span : Span) (low : ℕ) (run : Run) → low + length (clusters_in run) < span.from → part_in span low run ≡ []
no_part_before span low run lt = ap (λ b. cond b (part_of span low run ∷ []) []) (none_before span.from span.next low (low + length (clusters_in run)) (omega arith) lt)

pub none_from : (span : Span) (low : ℕ) (runs : List Run) → span.from ≤ span.next → span.next < low → parts_from span low runs ≡ []
none_from span low [] ordered lt = refl
none_from span low (run ∷ runs) ordered lt =
    ap (λ b. cond b (part_of span low run ∷ []) [] ++ parts_from span (low + length (clusters_in run)) runs)
    (none_behind span.from span.next low (low + length (clusters_in run)) ordered (omega arith) lt)
    ∙ none_from span (low + length (clusters_in run)) runs ordered (omega arith)

-- ---- one run more

pub parts_more : (span : Span) (runs : List Run) (r : ℕ) (d : Run) → r < length runs →
    parts_from span (edge runs r) (drop r runs) ≡ part_in span (edge runs r) (get_or runs r d) ++ parts_from span (edge runs (r + 1)) (drop (r + 1) runs)
parts_more span runs r d lt =
    ap (parts_from span (edge runs r)) (drop_more runs r d lt)
    ∙ ap (λ low. part_in span (edge runs r) (get_or runs r d) ++ parts_from span low (drop (r + 1) runs)) (sym (edge_more runs r d lt))

-- the runs that end before a line have no part in it
pub parts_past : (span : Span) (runs : List Run) (first : ℕ) → first ≤ length runs → ((run : ℕ) → run < first → edge runs (run + 1) < span.from) →
    parts_from span (edge runs first) (drop first runs) ≡ parts_from span 0 runs
parts_past span runs zero le passed = refl
parts_past span [] (suc first) le passed = absurd (omega arith)
parts_past span (d ∷ more) (suc first) le passed =
    let runs : List Run = d ∷ more in
    let next : suc first ≡ first + 1 = omega arith in
    let before : edge runs first + length (clusters_in (get_or runs first d)) < span.from = omega (arith, edge_more runs first d (omega arith), passed first (omega arith)) in
    ap (λ n. parts_from span (edge runs n) (drop n runs)) next
    ∙ (sym (parts_more span runs first d (omega arith) ∙ ap (λ ps. ps ++ parts_from span (edge runs (first + 1)) (drop (first + 1) runs)) (no_part_before span (edge runs first) (get_or runs first d) before))
    ∙ parts_past span runs first (omega arith) (λ run lt. passed run (omega arith)))

pub parts_step : (span : Span) (runs : List Run) (r : ℕ) (d : Run) (old new all : List PartValue) → r < length runs → new ≡ old ++ part_in span (edge runs r) (get_or runs r d) →
    old ++ parts_from span (edge runs r) (drop r runs) ≡ all → new ++ parts_from span (edge runs (r + 1)) (drop (r + 1) runs) ≡ all
parts_step span runs r d old new all lt is was =
    ap (λ ps. ps ++ parts_from span (edge runs (r + 1)) (drop (r + 1) runs)) is
    ∙ (append_assoc old (part_in span (edge runs r) (get_or runs r d)) (parts_from span (edge runs (r + 1)) (drop (r + 1) runs))
    ∙ (ap (λ ps. old ++ ps) (sym (parts_more span runs r d lt)) ∙ was))
