-- The greatest number that passes, and the prefixes that fit.
use Rattle.std.proofs.Common.{◌≡◌, ℕ, zero, suc, ◌+◌, ◌-◌, ◌<◌, ◌≤◌, min, Bool, true, false, cond, ◌&&◌, leb, List, length, take, get_or, refl, sym, ap, ◌∙◌, subst, arith, add-one}
use Rattle.std.specs.List.{sum_by}
use Rattle.std.proofs.lemmas.Bool.Decides.{nat_tests}
use Rattle.std.proofs.lemmas.List.{take-take}
use Rattle.std.proofs.lemmas.List.Sums.{sum_by_more, sum_by-take-le}
use Rattle.line_fill.specs.declared.clusters.Cluster.{Cluster}
use Rattle.line_fill.specs.Sums.{most}
use Rattle.line_fill.specs.Cuts.{greatest, used, fits, may_end, by_words, by_clusters}

-- ---- the greatest number that passes

pub greatest_more : (passes : ℕ → Bool) (n : ℕ) → greatest passes (n + 1) ≡ cond (passes (n + 1)) (n + 1) (greatest passes n)
greatest_more passes n = rw add-one refl

-- none above a bound passes
pub greatest_past : (passes : ℕ → Bool) (n k : ℕ) → ((m : ℕ) → n < m → passes m ≡ false) → greatest passes (n + k) ≡ greatest passes n
greatest_past passes n zero none = ap (greatest passes) (omega arith)
greatest_past passes n (suc k) none =
    let next : n + suc k ≡ suc (n + k) = omega arith in
    ap (greatest passes) next ∙ (ap (λ b. cond b (suc (n + k)) (greatest passes (n + k))) (none (suc (n + k)) (omega arith)) ∙ greatest_past passes n k none)

pub greatest_up_to : (passes : ℕ → Bool) (n all : ℕ) → n ≤ all → ((m : ℕ) → n < m → passes m ≡ false) → greatest passes all ≡ greatest passes n
greatest_up_to passes n all le none =
    let whole : all ≡ n + (all - n) = omega arith in
    ap (greatest passes) whole ∙ greatest_past passes n (all - n) none

-- ---- what clusters take

pub used_more : (clusters : List Cluster) (i : ℕ) (d : Cluster) → i < length clusters → used (take (i + 1) clusters) ≡ min (used (take i clusters) + (get_or clusters i d).width) most
used_more clusters i d lt =
    let sum : sum_by (λ (c : Cluster). c.width) (take (i + 1) clusters) ≡ sum_by (λ (c : Cluster). c.width) (take i clusters) + (get_or clusters i d).width
    = sum_by_more (λ (c : Cluster). c.width) clusters i d lt in
    ap (λ n. min n most) sum ∙ capped (sum_by (λ (c : Cluster). c.width) (take i clusters)) (get_or clusters i d).width
  where
    capped : (a b : ℕ) → min (a + b) most ≡ min (min a most + b) most
    capped a b = omega arith

pub used_rises : (clusters : List Cluster) (j k : ℕ) → j ≤ k → used (take j clusters) ≤ used (take k clusters)
used_rises clusters j k le =
    let sums : sum_by (λ (c : Cluster). c.width) (take j clusters) ≤ sum_by (λ (c : Cluster). c.width) (take k clusters)
    = subst (λ cs. sum_by (λ (c : Cluster). c.width) cs ≤ sum_by (λ (c : Cluster). c.width) (take k clusters)) (take-take j k clusters le) (sum_by-take-le (λ (c : Cluster). c.width) (take k clusters) j) in
    capped _ _ sums
  where
    capped : (a b : ℕ) → a ≤ b → min a most ≤ min b most
    capped a b le = omega arith

-- ---- prefixes that fit

leb_not : (a b : ℕ) → b < a → leb a b ≡ false
leb_not a b lt = grind (arith, nat_tests)

leb_is : (a b : ℕ) → a ≤ b → leb a b ≡ true
leb_is a b le = grind (arith, nat_tests)

and_false : (a : Bool) → (a && false) ≡ false
and_false true = refl
and_false false = refl

and_true : (a : Bool) → (a && true) ≡ a
and_true true = refl
and_true false = refl

pub fits_here : (room : ℕ) (clusters : List Cluster) (i : ℕ) (d : Cluster) (wide : ℕ) → i < length clusters → wide ≡ min (used (take i clusters) + (get_or clusters i d).width) most → wide ≤ room →
    fits room clusters (i + 1) ≡ true
fits_here room clusters i d wide lt is le = ap (λ n. leb n room) (used_more clusters i d lt ∙ sym is) ∙ leb_is wide room le

pub fits_no_more : (room : ℕ) (clusters : List Cluster) (i : ℕ) (d : Cluster) (wide : ℕ) → i < length clusters → wide ≡ min (used (take i clusters) + (get_or clusters i d).width) most → room < wide →
    (m : ℕ) → i < m → fits room clusters m ≡ false
fits_no_more room clusters i d wide lt is over m above =
    let same : used (take (i + 1) clusters) ≡ wide = used_more clusters i d lt ∙ sym is in
    let more : used (take (i + 1) clusters) ≤ used (take m clusters) = used_rises clusters (i + 1) m (omega arith) in
    leb_not (used (take m clusters)) room (omega arith)

-- one cluster more fits
pub fitting_more : (room : ℕ) (clusters : List Cluster) (i : ℕ) → fits room clusters (i + 1) ≡ true → greatest (fits room clusters) (i + 1) ≡ i + 1
fitting_more room clusters i fitting = greatest_more (fits room clusters) i ∙ ap (λ b. cond b (i + 1) (greatest (fits room clusters) i)) fitting

pub words_more : (room : ℕ) (clusters : List Cluster) (i words now : ℕ) → fits room clusters (i + 1) ≡ true → words ≡ greatest (λ count. may_end clusters count && fits room clusters count) i →
    now ≡ cond (may_end clusters (i + 1)) (i + 1) words → now ≡ greatest (λ count. may_end clusters count && fits room clusters count) (i + 1)
words_more room clusters i words now fitting was is =
    let P : ℕ → Bool = λ count. may_end clusters count && fits room clusters count in
    is
    ∙ (ap (λ n. cond (may_end clusters (i + 1)) (i + 1) n) was
    ∙ (ap (λ b. cond b (i + 1) (greatest P i)) (sym (ap (λ b. may_end clusters (i + 1) && b) fitting ∙ and_true (may_end clusters (i + 1)))) ∙ sym (greatest_more P i)))

-- nothing that is longer fits
pub words_stop : (room : ℕ) (clusters : List Cluster) (i words : ℕ) → i ≤ length clusters → ((m : ℕ) → i < m → fits room clusters m ≡ false) →
    words ≡ greatest (λ count. may_end clusters count && fits room clusters count) i → words ≡ by_words room clusters
words_stop room clusters i words le none is =
    let P : ℕ → Bool = λ count. may_end clusters count && fits room clusters count in
    is ∙ sym (greatest_up_to P i (length clusters) le (λ m above. ap (λ b. may_end clusters m && b) (none m above) ∙ and_false (may_end clusters m)))

pub clusters_stop : (room : ℕ) (clusters : List Cluster) (i : ℕ) → i ≤ length clusters → ((m : ℕ) → i < m → fits room clusters m ≡ false) →
    greatest (fits room clusters) i ≡ i → i ≡ by_clusters room clusters
clusters_stop room clusters i le none is = sym (greatest_up_to (fits room clusters) i (length clusters) le none ∙ is)
