-- What the definitions of lines come to: longest prefixes, widths, and that each cluster stands once.
use Rattle.std.proofs.Common.{◌≡◌, ℕ, zero, suc, ◌+◌, ◌-◌, ◌<◌, ◌≤◌, ◌⊎◌, min, max, Bool, true, false, cond, ◌&&◌, ◌||◌, leb, ltb, List, [], ◌∷◌, ◌++◌, length, take, drop, slice_range, encode_utf8_all, refl, sym, ap, ◌∙◌, subst, inl, inr, arith, length-append}
use Rattle.std.specs.List.{All, flat_map, concat}
use Rattle.std.proofs.lemmas.Bool.{cases_lt}
use Rattle.std.proofs.lemmas.Bool.Decides.{nat_tests}
use Rattle.std.proofs.lemmas.List.{drop-drop, drop_all, take-append-drop, length-drop}
use Rattle.std.proofs.lemmas.List.Elements.{All-nil, All-cons}
use Rattle.text_units.proofs.ClusterLemmas.{clusters-concat}
use Rattle.result_origin.specs.declared.pages.Run.{Run}
use Rattle.line_fill.specs.declared.clusters.Cluster.{Cluster}
use Rattle.line_fill.specs.declared.cuts.Cut.{Cut}
use Rattle.line_fill.specs.declared.spans.Span.{Span}
use Rattle.line_fill.specs.Clusters.{pieces, clusters_in, all_clusters}
use Rattle.line_fill.specs.Cuts.{greatest, used, fits, ends_before, may_end, by_words, by_clusters, cut_at, cut_of}
use Rattle.line_fill.specs.Spans.{span_of, goes_on, span_at, spans_from, spans_of}
use Rattle.line_fill.specs.Laws.{DoFit, AreWords, IsNarrow, HangsASpace, IsText}
use Rattle.line_fill.proofs.Places.{length-clusters_from}
use Rattle.line_fill.proofs.Shown.{concat-append}

-- ---- the greatest number that passes

true_or_false : (b : Bool) → (b ≡ true) ⊎ (b ≡ false)
true_or_false true = inl refl
true_or_false false = inr refl

greatest_ge : (passes : ℕ → Bool) (n m : ℕ) → 1 ≤ m → m ≤ n → passes m ≡ true → m ≤ greatest passes n
greatest_ge passes zero m some within passing = absurd (omega arith)
greatest_ge passes (suc n) m some within passing =
    elim (true_or_false (passes (suc n))) [
      | inl yields ↦ subst (λ k. m ≤ k) (sym (ap (λ b. cond b (suc n) (greatest passes n)) yields)) within
      | inr fails ↦
          subst (λ k. m ≤ k) (sym (ap (λ b. cond b (suc n) (greatest passes n)) fails)) (greatest_ge passes n m some (lower m n within (λ same. apart (sym passing ∙ (ap passes same ∙ fails)))) passing)
    ]
  where
    apart : true ≡ false → ⊥
    apart e = cc

    lower : (m n : ℕ) → m ≤ suc n → (m ≡ suc n → ⊥) → m ≤ n
    lower m n le not_same = grind arith

pub record IsPassing (passes : ℕ → Bool) (n k : ℕ) : Type 0 where
  pub some : 1 ≤ k
  pub within : k ≤ n
  pub passing : passes k ≡ true

greatest_is : (passes : ℕ → Bool) (n : ℕ) → (greatest passes n ≡ 0) ⊎ IsPassing passes n (greatest passes n)
greatest_is passes zero = inl refl
greatest_is passes (suc n) =
    elim (true_or_false (passes (suc n))) [
      | inl yields ↦
          inr (subst (IsPassing passes (suc n)) (sym (ap (λ b. cond b (suc n) (greatest passes n)) yields)) (record { some = omega arith; within = omega arith; passing = yields }))
      | inr fails ↦
          let same : greatest passes (suc n) ≡ greatest passes n = ap (λ b. cond b (suc n) (greatest passes n)) fails in
          elim (greatest_is passes n) [
            | inl none ↦ inl (same ∙ none)
            | inr found ↦ inr (subst (IsPassing passes (suc n)) (sym same) (record { some = found.some; within = omega (arith, found.within); passing = found.passing }))
          ]
    ]

both_left : (a b : Bool) → (a && b) ≡ true → a ≡ true
both_left true b e = refl
both_left false b e = e

both_right : (a b : Bool) → (a && b) ≡ true → b ≡ true
both_right true b e = e
both_right false b e = absurd (apart e)
  where
    apart : false ≡ true → ⊥
    apart e = cc

both : (a b : Bool) → a ≡ true → b ≡ true → (a && b) ≡ true
both a b e f = ap (λ x. x && b) e ∙ f

-- ---- the line that begins clusters

-- the three ways to end a line
pub data Ending (room : ℕ) (clusters : List Cluster) (cut : Cut) : Type 0 where
  ByWords : AreWords room clusters cut.taken → cut.hangs ≡ ltb cut.taken (length clusters) → ((count : ℕ) → AreWords room clusters count → count ≤ cut.taken) → Ending room clusters cut
  ByClusters : DoFit room clusters cut.taken → cut.hangs ≡ false → ((count : ℕ) → AreWords room clusters count → ⊥) → ((count : ℕ) → DoFit room clusters count → count ≤ cut.taken) → Ending room clusters cut
  ByOne : cut.taken ≡ min 1 (length clusters) → cut.hangs ≡ false → ((count : ℕ) → DoFit room clusters count → ⊥) → Ending room clusters cut

ending_at : (room : ℕ) (clusters : List Cluster) (words most : ℕ) → by_words room clusters ≡ words → by_clusters room clusters ≡ most → Ending room clusters (cut_at words most (length clusters))
ending_at room clusters (suc words) most is also =
    let P : ℕ → Bool = λ count. may_end clusters count && fits room clusters count in
    elim (greatest_is P (length clusters)) [
      | inl none ↦ absurd (omega (arith, is, none))
      | inr found ↦
          let here : IsPassing P (length clusters) (suc words) = subst (IsPassing P (length clusters)) is found in
          ByWords
          (record {
            do_fit = record { some = here.some; within = here.within; fitting = both_right (may_end clusters (suc words)) (fits room clusters (suc words)) here.passing };
            ends = both_left (may_end clusters (suc words)) (fits room clusters (suc words)) here.passing;
          })
          refl
          (λ count are. subst (λ k. count ≤ k) is (greatest_ge P (length clusters) count are.do_fit.some are.do_fit.within (both (may_end clusters count) (fits room clusters count) are.ends are.do_fit.fitting)))
    ]
ending_at room clusters zero (suc most) is also =
    let P : ℕ → Bool = λ count. may_end clusters count && fits room clusters count in
    elim (greatest_is (fits room clusters) (length clusters)) [
      | inl none ↦ absurd (omega (arith, also, none))
      | inr found ↦
          let here : IsPassing (fits room clusters) (length clusters) (suc most) = subst (IsPassing (fits room clusters) (length clusters)) also found in
          let same : min (max (suc most) 1) (length clusters) ≡ suc most = omega (arith, here.within) in
          ByClusters (subst (DoFit room clusters) (sym same) (record { some = here.some; within = here.within; fitting = here.passing })) refl
          (λ count are.
          let le : count ≤ 0
          = subst (λ k. count ≤ k) is (greatest_ge P (length clusters) count are.do_fit.some are.do_fit.within (both (may_end clusters count) (fits room clusters count) are.ends are.do_fit.fitting)) in
          omega (arith, le, are.do_fit.some))
          (λ count it. subst (λ k. count ≤ k) (also ∙ sym same) (greatest_ge (fits room clusters) (length clusters) count it.some it.within it.fitting))
    ]
ending_at room clusters zero zero is also =
    ByOne (omega arith) refl
    (λ count it.
    let le : count ≤ 0 = subst (λ k. count ≤ k) also (greatest_ge (fits room clusters) (length clusters) count it.some it.within it.fitting) in
    omega (arith, le, it.some))

pub ending : (room : ℕ) (clusters : List Cluster) → Ending room clusters (cut_of room clusters)
ending room clusters = ending_at room clusters (by_words room clusters) (by_clusters room clusters) refl refl

pub longest_words : (room : ℕ) (clusters : List Cluster) (count : ℕ) → AreWords room clusters count → AreWords room clusters (cut_of room clusters).taken × (count ≤ (cut_of room clusters).taken)
longest_words room clusters count are = by_ending (cut_of room clusters) (ending room clusters)
  where
    by_ending : (cut : Cut) → Ending room clusters cut → AreWords room clusters cut.taken × (count ≤ cut.taken)
    by_ending cut (ByWords words hangs longest) = (words, longest count are)
    by_ending cut (ByClusters fit hangs none longest) = absurd (none count are)
    by_ending cut (ByOne one hangs none) = absurd (none count are.do_fit)

pub longest_fit : (room : ℕ) (clusters : List Cluster) (count : ℕ) → ((words : ℕ) → AreWords room clusters words → ⊥) → DoFit room clusters count →
    DoFit room clusters (cut_of room clusters).taken × (count ≤ (cut_of room clusters).taken) × ((cut_of room clusters).hangs ≡ false)
longest_fit room clusters count no_words it = by_ending (cut_of room clusters) (ending room clusters)
  where
    by_ending : (cut : Cut) → Ending room clusters cut → DoFit room clusters cut.taken × (count ≤ cut.taken) × (cut.hangs ≡ false)
    by_ending cut (ByWords words hangs longest) = absurd (no_words cut.taken words)
    by_ending cut (ByClusters fit hangs none longest) = (fit, longest count it, hangs)
    by_ending cut (ByOne one hangs none) = absurd (none count it)

pub one_cluster : (room : ℕ) (clusters : List Cluster) → ((count : ℕ) → DoFit room clusters count → ⊥) → 0 < length clusters → ((cut_of room clusters).taken ≡ 1) × ((cut_of room clusters).hangs ≡ false)
one_cluster room clusters no_fit some = by_ending (cut_of room clusters) (ending room clusters)
  where
    by_ending : (cut : Cut) → Ending room clusters cut → (cut.taken ≡ 1) × (cut.hangs ≡ false)
    by_ending cut (ByWords words hangs longest) = absurd (no_fit cut.taken words.do_fit)
    by_ending cut (ByClusters fit hangs none longest) = absurd (no_fit cut.taken fit)
    by_ending cut (ByOne one hangs none) = (omega (arith, one, some), hangs)

-- ---- widths

leb-true : (a b : ℕ) → leb a b ≡ true → a ≤ b
leb-true a b e = grind (arith, nat_tests)

narrow : (room : ℕ → ℕ) (clusters : List Cluster) (from : ℕ) → IsNarrow room clusters (span_at room clusters from)
narrow room clusters from = by_ending (cut_of (room from) (drop from clusters)) (ending (room from) (drop from clusters))
  where
    fitting : (taken : ℕ) → fits (room from) (drop from clusters) taken ≡ true → used (slice_range clusters from (from + taken)) ≤ room from
    fitting taken e =
        let many : (from + taken) - from ≡ taken = omega arith in
        subst (λ n. used (take n (drop from clusters)) ≤ room from) (sym many) (leb-true (used (take taken (drop from clusters))) (room from) e)

    by_ending : (cut : Cut) → Ending (room from) (drop from clusters) cut → IsNarrow room clusters (span_of from cut)
    by_ending cut (ByWords words hangs longest) = inl (fitting cut.taken words.do_fit.fitting)
    by_ending cut (ByClusters fit hangs none longest) = inl (fitting cut.taken fit.fitting)
    by_ending cut (ByOne one hangs none) =
        elim (cases_lt 0 (length (drop from clusters))) [
          | inl some ↦ inr (omega (arith, one, some))
          | inr empty ↦
              let many : (from + cut.taken) - from ≡ 0 = omega (arith, one, empty) in
              inl (subst (λ n. used (take n (drop from clusters)) ≤ room from) (sym many) (omega arith))
        ]

narrow_from : (room : ℕ → ℕ) (clusters : List Cluster) (count from : ℕ) → All (IsNarrow room clusters) (spans_from room clusters count from)
narrow_from room clusters zero from = All-nil (IsNarrow room clusters)
narrow_from room clusters (suc count) from =
    let span : Span = span_at room clusters from in
    All-cons (IsNarrow room clusters) span (cond (goes_on (length clusters) span) (spans_from room clusters count span.next) []) (narrow room clusters from)
    (at_cond (goes_on (length clusters) span) (narrow_from room clusters count span.next))
  where
    at_cond : (b : Bool) → All (IsNarrow room clusters) (spans_from room clusters count (span_at room clusters from).next) →
        All (IsNarrow room clusters) (cond b (spans_from room clusters count (span_at room clusters from).next) [])
    at_cond true rest = rest
    at_cond false rest = All-nil (IsNarrow room clusters)

pub all_narrow : (room : ℕ → ℕ) (clusters : List Cluster) → All (IsNarrow room clusters) (spans_of room clusters)
all_narrow room clusters = narrow_from room clusters (suc (length clusters)) 0

-- ---- each cluster once

pub record IsSound (clusters : List Cluster) (cut : Cut) : Type 0 where
  pub within : cut.taken + cond cut.hangs 1 0 ≤ length clusters
  pub some : 0 < length clusters → 0 < cut.taken
  pub hung : (cut.hangs ≡ true) → (cut.taken < length clusters) × (may_end clusters cut.taken ≡ true)

sound : (room : ℕ) (clusters : List Cluster) → IsSound clusters (cut_of room clusters)
sound room clusters = by_ending (cut_of room clusters) (ending room clusters)
  where
    ltb-true : (a b : ℕ) → ltb a b ≡ true → a < b
    ltb-true a b e = grind (arith, nat_tests)

    room_for : (taken all : ℕ) (hangs : Bool) → hangs ≡ ltb taken all → taken ≤ all → taken + cond hangs 1 0 ≤ all
    room_for taken all true e le = omega (arith, ltb-true taken all (sym e))
    room_for taken all false e le = omega arith

    no_room : (taken all : ℕ) (hangs : Bool) → hangs ≡ false → taken ≤ all → taken + cond hangs 1 0 ≤ all
    no_room taken all hangs e le = subst (λ b. taken + cond b 1 0 ≤ all) (sym e) (omega arith)

    apart : true ≡ false → ⊥
    apart e = cc

    by_ending : (cut : Cut) → Ending room clusters cut → IsSound clusters cut
    by_ending cut (ByWords words hangs longest) = record {
      within = room_for cut.taken (length clusters) cut.hangs hangs words.do_fit.within;
      some = λ any. omega (arith, words.do_fit.some);
      hung = λ e. (ltb-true cut.taken (length clusters) (sym hangs ∙ e), words.ends);
    }
    by_ending cut (ByClusters fit hangs none longest) = record {
      within = no_room cut.taken (length clusters) cut.hangs hangs fit.within;
      some = λ any. omega (arith, fit.some);
      hung = λ e. absurd (apart (sym e ∙ hangs));
    }
    by_ending cut (ByOne one hangs none) = record {
      within = no_room cut.taken (length clusters) cut.hangs hangs (omega (arith, one));
      some = λ any. omega (arith, one, any);
      hung = λ e. absurd (apart (sym e ∙ hangs));
    }

cut_once : {A : Type 0} → (xs : List A) (from to : ℕ) → from ≤ to → slice_range xs from to ++ drop to xs ≡ drop from xs
cut_once xs from to le =
    let whole : from + (to - from) ≡ to = omega arith in
    ap (λ ys. take (to - from) (drop from xs) ++ ys) (sym (drop-drop (to - from) from xs ∙ ap (λ n. drop n xs) whole)) ∙ take-append-drop (to - from) (drop from xs)

goes_past : (all : ℕ) (clusters : List Cluster) (from : ℕ) (cut : Cut) → length clusters ≡ all → from ≤ all → IsSound (drop from clusters) cut →
    (from ≤ (span_of from cut).next) × ((span_of from cut).next ≤ all) × (goes_on all (span_of from cut) ≡ true → from < (span_of from cut).next) × (goes_on all (span_of from cut) ≡ false → all ≤ (span_of from cut).next)
goes_past all clusters from cut long le is =
    let left : length (drop from clusters) ≡ all - from = omega (arith, length-drop from clusters, long) in
    (omega arith, omega (arith, is.within, left), past cut.hangs cut.taken is.within is.some left, stops cut.hangs cut.taken is.within is.some left)
  where
    past : (hangs : Bool) (taken : ℕ) → taken + cond hangs 1 0 ≤ length (drop from clusters) → (0 < length (drop from clusters) → 0 < taken) → length (drop from clusters) ≡ all - from →
        (ltb (from + taken) (from + taken + cond hangs 1 0) || ltb (from + taken + cond hangs 1 0) all) ≡ true → from < from + taken + cond hangs 1 0
    past true taken within some left on = omega arith
    past false taken within some left on =
        elim (cases_lt (from + taken + 0) all) [
          | inl more ↦ omega (arith, some (omega (arith, left, more)))
          | inr none ↦ absurd (off from taken all none on)
        ]
      where
        off : (from taken all : ℕ) → all ≤ from + taken + 0 → (ltb (from + taken) (from + taken + 0) || ltb (from + taken + 0) all) ≡ true → ⊥
        off from taken all le e = grind (arith, nat_tests)

    stops : (hangs : Bool) (taken : ℕ) → taken + cond hangs 1 0 ≤ length (drop from clusters) → (0 < length (drop from clusters) → 0 < taken) → length (drop from clusters) ≡ all - from →
        (ltb (from + taken) (from + taken + cond hangs 1 0) || ltb (from + taken + cond hangs 1 0) all) ≡ false → all ≤ from + taken + cond hangs 1 0
    stops hangs taken within some left off = by_tests (from + taken) (from + taken + cond hangs 1 0) all off
      where
        by_tests : (to next all : ℕ) → (ltb to next || ltb next all) ≡ false → all ≤ next
        by_tests to next all e = grind (arith, nat_tests)

-- of a list as long as the clusters, each item stands in one line
shown_from : {A : Type 0} → (room : ℕ → ℕ) (clusters : List Cluster) (xs : List A) (count from : ℕ) → length xs ≡ length clusters → from ≤ length clusters → length clusters < from + count →
    flat_map (λ (span : Span). slice_range xs span.from span.next) (spans_from room clusters count from) ≡ drop from xs
shown_from room clusters xs zero from same le lt = absurd (omega arith)
shown_from room clusters xs (suc count) from same le lt =
    let span : Span = span_at room clusters from in
    let facts = goes_past (length clusters) clusters from (cut_of (room from) (drop from clusters)) refl le (sound (room from) (drop from clusters)) in
    let rest : flat_map (λ (s : Span). slice_range xs s.from s.next) (cond (goes_on (length clusters) span) (spans_from room clusters count span.next) []) ≡ drop span.next xs
    = at_cond (goes_on (length clusters) span) refl facts.3 (λ on. shown_from room clusters xs count span.next same facts.1 (omega (arith, facts.2 on))) in
    ap (λ cs. slice_range xs from span.next ++ cs) rest ∙ cut_once xs from span.next facts.0
  where
    at_cond : (b : Bool) → goes_on (length clusters) (span_at room clusters from) ≡ b → (goes_on (length clusters) (span_at room clusters from) ≡ false → length clusters ≤ (span_at room clusters from).next) →
        (goes_on (length clusters) (span_at room clusters from) ≡ true → flat_map (λ (s : Span). slice_range xs s.from s.next) (spans_from room clusters count (span_at room clusters from).next) ≡ drop (span_at room clusters from).next xs) →
        flat_map (λ (s : Span). slice_range xs s.from s.next) (cond b (spans_from room clusters count (span_at room clusters from).next) []) ≡ drop (span_at room clusters from).next xs
    at_cond true is end rest = rest is
    at_cond false is end rest = sym (drop_all (span_at room clusters from).next xs (omega (arith, end is, same)))

pub all_once : (room : ℕ → ℕ) (clusters : List Cluster) → flat_map (λ (span : Span). slice_range clusters span.from span.next) (spans_of room clusters) ≡ clusters
all_once room clusters = shown_from room clusters clusters (suc (length clusters)) 0 refl (omega arith) (omega arith)

-- the lines and what hangs behind them, joined, are the text of the runs
as_many : (runs : List Run) → length (flat_map pieces runs) ≡ length (all_clusters runs)
as_many [] = refl
as_many (run ∷ runs) =
    omega (arith, as_many runs, length-clusters_from run.face.size 0 (pieces run), length-append (pieces run) (flat_map pieces runs), length-append (clusters_in run) (all_clusters runs))

whole_text : (runs : List Run) → All IsText runs → concat (flat_map pieces runs) ≡ flat_map (λ (run : Run). encode_utf8_all run.text) runs
whole_text [] texts = refl
whole_text (run ∷ runs) texts =
    concat-append (pieces run) (flat_map pieces runs)
    ∙ (λ i. clusters-concat (encode_utf8_all run.text) (texts 0 run (omega arith)) i ++ whole_text runs (λ j d lt. texts (suc j) d (omega arith)) i)

pub text_once : (room : ℕ → ℕ) (runs : List Run) → All IsText runs →
    concat (flat_map (λ (span : Span). slice_range (flat_map pieces runs) span.from span.next) (spans_of room (all_clusters runs))) ≡ flat_map (λ (run : Run). encode_utf8_all run.text) runs
text_once room runs texts =
    ap concat (shown_from room (all_clusters runs) (flat_map pieces runs) (suc (length (all_clusters runs))) 0 (as_many runs) (omega arith) (omega arith)) ∙ whole_text runs texts

-- ---- what hangs

one_space : (rest : List Cluster) → 0 < length rest → ends_before rest ≡ true → (cluster : Cluster) × (take 1 rest ≡ cluster ∷ []) × (cluster.is_space ≡ true)
one_space [] some ends = absurd (omega arith)
one_space (cluster ∷ more) some ends = (cluster, refl, ends)

hanging : (room : ℕ → ℕ) (clusters : List Cluster) (from : ℕ) → HangsASpace clusters (span_at room clusters from)
hanging room clusters from = by_hang (cut_of (room from) (drop from clusters)).hangs (cut_of (room from) (drop from clusters)).taken (sound (room from) (drop from clusters)).hung
  where
    by_hang : (hangs : Bool) (taken : ℕ) → ((hangs ≡ true) → (taken < length (drop from clusters)) × (may_end (drop from clusters) taken ≡ true)) →
        (slice_range clusters (from + taken) (from + taken + cond hangs 1 0) ≡ []) ⊎ ((cluster : Cluster) × (slice_range clusters (from + taken) (from + taken + cond hangs 1 0) ≡ cluster ∷ []) × (cluster.is_space ≡ true))
    by_hang false taken hung =
        let none : (from + taken + 0) - (from + taken) ≡ 0 = omega arith in
        inl (ap (λ n. take n (drop (from + taken) clusters)) none)
    by_hang true taken hung =
        let one : (from + taken + 1) - (from + taken) ≡ 1 = omega arith in
        let same : drop taken (drop from clusters) ≡ drop (from + taken) clusters = drop-drop taken from clusters in
        let facts = hung refl in
        let some : 0 < length (drop (from + taken) clusters) = omega (arith, facts.0, length-drop from clusters, length-drop (from + taken) clusters) in
        let found = one_space (drop (from + taken) clusters) some (ap ends_before (sym same) ∙ facts.1) in
        inr (found.0, ap (λ n. take n (drop (from + taken) clusters)) one ∙ found.1, found.2)

hanging_from : (room : ℕ → ℕ) (clusters : List Cluster) (count from : ℕ) → All (HangsASpace clusters) (spans_from room clusters count from)
hanging_from room clusters zero from = All-nil (HangsASpace clusters)
hanging_from room clusters (suc count) from =
    let span : Span = span_at room clusters from in
    All-cons (HangsASpace clusters) span (cond (goes_on (length clusters) span) (spans_from room clusters count span.next) []) (hanging room clusters from)
    (at_cond (goes_on (length clusters) span) (hanging_from room clusters count span.next))
  where
    at_cond : (b : Bool) → All (HangsASpace clusters) (spans_from room clusters count (span_at room clusters from).next) →
        All (HangsASpace clusters) (cond b (spans_from room clusters count (span_at room clusters from).next) [])
    at_cond true rest = rest
    at_cond false rest = All-nil (HangsASpace clusters)

pub all_hanging : (room : ℕ → ℕ) (clusters : List Cluster) → All (HangsASpace clusters) (spans_of room clusters)
all_hanging room clusters = hanging_from room clusters (suc (length clusters)) 0
