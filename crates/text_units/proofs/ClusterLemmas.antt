-- Clusters between boundaries: which boundary stands behind the first clusters, and what stands between two neighbours.
use Rattle.std.proofs.Common.{◌≡◌, ℕ, ◌+◌, ◌-◌, ◌<◌, ◌≤◌, zero, suc, true, List, [], ◌∷◌, ◌++◌, map, length, take, drop, slice_index_or, slice_range, refl, sym, ap, subst, ◌∙◌, arith, ⊎_elim, append_assoc, length-append, take_at, drop_at}
use Rattle.std.proofs.lemmas.Bool.{cases_lt}
use Rattle.std.proofs.lemmas.List.Elements.{All-nil, All-cons, Contains-get_or}
use Rattle.std.proofs.lemmas.Str.{IsUtf8-past_char}
use Rattle.std.specs.List.{All, concat, Contains}
use Rattle.std.specs.Prelude.{encode_utf8, encode_utf8_all}
use Rattle.std.specs.Str.{chars, IsUtf8}
use Rattle.unicode_segmentation.specs.Grapheme.{is_grapheme_break}
use Rattle.unicode_segmentation.specs.Segments.{cut, segments}
use Rattle.unicode_segmentation.proofs.SegmentsLemmas.{AllPieces, concat-segments, length-segments, segments_nonempty}
use Rattle.unicode_segmentation.proofs.TextLemmas.{IsUtf8-before}
use Rattle.text_units.specs.Clusters.{clusters_of}
use Rattle.text_units.specs.Boundaries.{boundaries_from, cluster_boundaries, IsBoundary}
use Rattle.text_units.specs.Stops.{IsNextStop, IsPrevStop}
use Rattle.text_units.proofs.StopLemmas.{IsNextStop-from_prev}

-- ---- each cluster is a text, and not an empty one

pub clusters-concat : (text : List ℕ) → IsUtf8 text → concat (clusters_of text) ≡ text
clusters-concat text u = concat-segments (is_grapheme_break true) text u

-- no more clusters than bytes
pub length-clusters : (text : List ℕ) → IsUtf8 text → length (clusters_of text) ≤ length text
length-clusters text u = length-segments (is_grapheme_break true) text u

pub clusters-nonempty : (text : List ℕ) → AllPieces (λ cluster. 0 < length cluster) (clusters_of text)
clusters-nonempty text = segments_nonempty (is_grapheme_break true) text

All-from_pieces : (P : List ℕ → Type 0) (ps : List (List ℕ)) → AllPieces P ps → All P ps
All-from_pieces P [] h = All-nil P
All-from_pieces P (p ∷ ps) h = All-cons P p ps h.0 (All-from_pieces P ps h.1)

pub All-clusters-nonempty : (text : List ℕ) → All (λ cluster. 0 < length cluster) (clusters_of text)
All-clusters-nonempty text = All-from_pieces (λ cluster. 0 < length cluster) (clusters_of text) (clusters-nonempty text)

IsUtf8-past : (cs rest : List ℕ) → IsUtf8 (encode_utf8_all cs ++ rest) → IsUtf8 rest
IsUtf8-past [] rest u = u
IsUtf8-past (c ∷ cs) rest u = IsUtf8-past cs rest (IsUtf8-past_char _ _ c u (append_assoc (encode_utf8 c) (encode_utf8_all cs) rest))

pieces-utf8 : (ps : List (List ℕ)) → IsUtf8 (concat (map encode_utf8_all ps)) → AllPieces IsUtf8 (map encode_utf8_all ps)
pieces-utf8 [] u = tt
pieces-utf8 (cs ∷ ps) u =
    let later = IsUtf8-past cs _ u in
    (IsUtf8-before _ (encode_utf8_all cs) _ u later refl, pieces-utf8 ps later)

pub clusters-utf8 : (text : List ℕ) → IsUtf8 text → AllPieces IsUtf8 (clusters_of text)
unfolding segments
clusters-utf8 text u = pieces-utf8 (cut (is_grapheme_break true) [] (chars text) []) (subst IsUtf8 (sym (clusters-concat text u)) u)

-- ---- the boundary behind the first k clusters

pub length-boundaries_from : (n : ℕ) (ps : List (List ℕ)) → length (boundaries_from n ps) ≡ length ps + 1
unfolding boundaries_from
length-boundaries_from n [] = refl
length-boundaries_from n (p ∷ ps) = let rest = length-boundaries_from (n + length p) ps in omega arith

boundaries_from-at : (n : ℕ) (ps : List (List ℕ)) (k d : ℕ) → k ≤ length ps → slice_index_or (boundaries_from n ps) k d ≡ n + length (concat (take k ps))
unfolding boundaries_from
boundaries_from-at n [] zero d le = omega arith
boundaries_from-at n [] (suc k) d le = absurd (omega arith)
boundaries_from-at n (p ∷ ps) zero d le = omega arith
boundaries_from-at n (p ∷ ps) (suc k) d le =
    boundaries_from-at (n + length p) ps k d (omega arith) ∙ omega (arith, length-append p (concat (take k ps)))

pub length-cluster_boundaries : (text : List ℕ) → length (cluster_boundaries text) ≡ length (clusters_of text) + 1
unfolding cluster_boundaries
length-cluster_boundaries text = length-boundaries_from 0 (clusters_of text)

pub cluster_boundaries-at : (text : List ℕ) (k d : ℕ) → k ≤ length (clusters_of text)
    → slice_index_or (cluster_boundaries text) k d ≡ length (concat (take k (clusters_of text)))
unfolding cluster_boundaries
cluster_boundaries-at text k d le = let at = boundaries_from-at 0 (clusters_of text) k d le in omega arith

-- ---- between a boundary and the next there is one cluster

concat-take-le : (ps : List (List ℕ)) (j k : ℕ) → j ≤ k → length (concat (take j ps)) ≤ length (concat (take k ps))
concat-take-le ps zero k le = omega arith
concat-take-le ps (suc j) zero le = absurd (omega arith)
concat-take-le [] (suc j) (suc k) le = omega arith
concat-take-le (p ∷ ps) (suc j) (suc k) le =
    omega (arith, concat-take-le ps j k (omega arith), length-append p (concat (take j ps)), length-append p (concat (take k ps)))

concat-take-suc : (ps : List (List ℕ)) (k : ℕ) → k < length ps
    → length (concat (take (suc k) ps)) ≡ length (concat (take k ps)) + length (slice_index_or ps k [])
concat-take-suc [] k inside = absurd (omega arith)
concat-take-suc (p ∷ ps) zero inside = omega (arith, length-append p [])
concat-take-suc (p ∷ ps) (suc k) inside =
    omega (arith, concat-take-suc ps k (omega arith), length-append p (concat (take (suc k) ps)), length-append p (concat (take k ps)))

concat-split : (ps : List (List ℕ)) (k : ℕ) → k < length ps → concat ps ≡ concat (take k ps) ++ (slice_index_or ps k [] ++ concat (drop (suc k) ps))
concat-split [] k inside = absurd (omega arith)
concat-split (p ∷ ps) zero inside = refl
concat-split (p ∷ ps) (suc k) inside = ap (λ t. p ++ t) (concat-split ps k (omega arith)) ∙ sym (append_assoc p (concat (take k ps)) _)

piece-nonempty : (ps : List (List ℕ)) (k : ℕ) → AllPieces (λ p. 0 < length p) ps → k < length ps → 0 < length (slice_index_or ps k [])
piece-nonempty [] k some inside = absurd (omega arith)
piece-nonempty (p ∷ ps) zero some inside = some.0
piece-nonempty (p ∷ ps) (suc k) some inside = piece-nonempty ps k some.1 (omega arith)

slice_range-piece : (ps : List (List ℕ)) (k at stop : ℕ) → k < length ps → at ≡ length (concat (take k ps)) → stop ≡ at + length (slice_index_or ps k [])
    → slice_range (concat ps) at stop ≡ slice_index_or ps k []
slice_range-piece ps k at stop inside start width =
    let size : length (slice_index_or ps k []) ≡ stop - at = omega arith in
    ap (λ t. take (stop - at) (drop at t)) (concat-split ps k inside) ∙ ap (take (stop - at)) (drop_at (concat (take k ps)) _ at (sym start))
    ∙ take_at (slice_index_or ps k []) _ (stop - at) size

-- the step of a caret from a boundary to the next passes over one cluster
pub cluster-next_stop : (text : List ℕ) (at stop : ℕ) → IsUtf8 text → IsBoundary text at → IsNextStop text at stop
    → Contains (clusters_of text) (slice_range text at stop)
unfolding IsBoundary
cluster-next_stop text at stop u (k, inside, here) next =
    let ps = clusters_of text in
    let number = length-cluster_boundaries text in
    let reached = next.boundary in
    let j = reached.0 in
    let start : at ≡ length (concat (take k ps)) = sym here ∙ cluster_boundaries-at text k at (omega arith) in
    let end : stop ≡ length (concat (take j ps)) = sym reached.2 ∙ cluster_boundaries-at text j stop (omega (arith, reached.1)) in
    let past = next.past in
    let later : k < j = ⊎_elim (λ h. h) (λ (low : j ≤ k). absurd (omega (arith, concat-take-le ps j k low))) (cases_lt k j) in
    let within : k < length ps = omega (arith, reached.1) in
    let grown = concat-take-suc ps k within in
    let some = piece-nonempty ps k (clusters-nonempty text) within in
    let after = length (concat (take (suc k) ps)) in
    let near = next.least after (suc k, omega arith, cluster_boundaries-at text (suc k) after (omega arith)) (omega arith) in
    let far = concat-take-le ps (suc k) j (omega arith) in
    let width : stop ≡ at + length (slice_index_or ps k []) = omega arith in
    let piece : slice_range text at stop ≡ slice_index_or ps k [] =
    ap (λ t. slice_range t at stop) (sym (clusters-concat text u)) ∙ slice_range-piece ps k at stop within start width in
    subst (Contains ps) (sym piece) (Contains-get_or ps k [] within)

pub cluster-prev_stop : (text : List ℕ) (at stop : ℕ) → IsUtf8 text → IsBoundary text at → IsPrevStop text at stop
    → Contains (clusters_of text) (slice_range text stop at)
cluster-prev_stop text at stop u b prev = cluster-next_stop text stop at u prev.boundary (IsNextStop-from_prev text at stop b prev)
