-- Places behind the first clusters of a run.
use Rattle.std.proofs.Common.{◌≡◌, ℕ, zero, suc, ◌+◌, ◌-◌, ◌<◌, ◌≤◌, ℤ, List, [], ◌∷◌, ◌++◌, length, take, drop, get_or, encode_utf8_all, refl, sym, ap, ◌∙◌, subst, arith, length-append, append_assoc}
use Rattle.std.specs.List.{concat}
use Rattle.std.specs.Str.{chars, IsUtf8}
use Rattle.std.proofs.lemmas.List.{take_all}
use Rattle.std.proofs.lemmas.Str.{IsUtf8-nil, IsUtf8-append, chars-append, encodes-chars}
use Rattle.unicode_segmentation.proofs.SegmentsLemmas.{AllPieces}
use Rattle.text_units.proofs.ClusterLemmas.{clusters-concat, clusters-utf8}
use Rattle.serna_kinds.specs.Texts.{IsPlaceIn}
use Rattle.result_origin.specs.declared.pages.Run.{Run}
use Rattle.line_fill.specs.declared.clusters.Cluster.{Cluster}
use Rattle.line_fill.specs.Clusters.{pieces, place_behind, clusters_from, clusters_in}

-- ---- where the clusters of a run begin

pub length-clusters_from : (size : ℤ) (start : ℕ) (ps : List (List ℕ)) → length (clusters_from size start ps) ≡ length ps
length-clusters_from size start [] = refl
length-clusters_from size start (p ∷ ps) = ap suc (length-clusters_from size (start + length p) ps)

pub start_of : (size : ℤ) (start : ℕ) (ps : List (List ℕ)) (k : ℕ) (d : Cluster) → k < length ps → (get_or (clusters_from size start ps) k d).start ≡ start + length (concat (take k ps))
start_of size start [] k d lt = absurd (omega arith)
start_of size start (p ∷ ps) zero d lt = omega arith
start_of size start (p ∷ ps) (suc k) d lt = start_of size (start + length p) ps k d (omega arith) ∙ omega (arith, length-append p (concat (take k ps)))

pub start_behind : (run : Run) (k : ℕ) (d : Cluster) → k < length (clusters_in run) → (get_or (clusters_in run) k d).start ≡ place_behind run k
start_behind run k d lt = start_of run.face.size 0 (pieces run) k d (omega (arith, length-clusters_from run.face.size 0 (pieces run))) ∙ omega arith

pub end_behind : (run : Run) (bytes : List ℕ) (k : ℕ) → bytes ≡ encode_utf8_all run.text → IsUtf8 bytes → length (clusters_in run) ≤ k → length bytes ≡ place_behind run k
end_behind run bytes k same u le =
    ap length (same ∙ sym (ap concat (take_all k (pieces run) (omega (arith, length-clusters_from run.face.size 0 (pieces run)))) ∙ clusters-concat (encode_utf8_all run.text) (subst IsUtf8 same u)))

-- ---- each of these is a place in the text

pub concat-take-drop : (k : ℕ) (ps : List (List ℕ)) → concat (take k ps) ++ concat (drop k ps) ≡ concat ps
concat-take-drop zero ps = refl
concat-take-drop (suc k) [] = refl
concat-take-drop (suc k) (p ∷ ps) = append_assoc p (concat (take k ps)) (concat (drop k ps)) ∙ ap (λ bs. p ++ bs) (concat-take-drop k ps)

utf8_front : (k : ℕ) (ps : List (List ℕ)) → AllPieces IsUtf8 ps → IsUtf8 (concat (take k ps))
utf8_front zero ps all = IsUtf8-nil
utf8_front (suc k) [] all = IsUtf8-nil
utf8_front (suc k) (p ∷ ps) all = IsUtf8-append p (concat (take k ps)) all.0 (utf8_front k ps all.1)

utf8_back : (k : ℕ) (ps : List (List ℕ)) → AllPieces IsUtf8 ps → IsUtf8 (concat (drop k ps))
utf8_back zero [] all = IsUtf8-nil
utf8_back zero (p ∷ ps) all = IsUtf8-append p (concat ps) all.0 (utf8_back zero ps all.1)
utf8_back (suc k) [] all = IsUtf8-nil
utf8_back (suc k) (p ∷ ps) all = utf8_back k ps all.1

pub is_place : (run : Run) (bytes : List ℕ) (k : ℕ) → chars bytes ≡ run.text → bytes ≡ encode_utf8_all run.text → IsUtf8 bytes → IsPlaceIn run.text (place_behind run k)
is_place run bytes k text same u =
    let utf8 : IsUtf8 (encode_utf8_all run.text) = subst IsUtf8 same u in
    let front : List ℕ = concat (take k (pieces run)) in
    let back : List ℕ = concat (drop k (pieces run)) in
    let all : AllPieces IsUtf8 (pieces run) = clusters-utf8 (encode_utf8_all run.text) utf8 in
    let joined : front ++ back ≡ bytes = concat-take-drop k (pieces run) ∙ (clusters-concat (encode_utf8_all run.text) utf8 ∙ sym same) in
    record {
      before = chars front;
      behind = chars back;
      whole = sym text ∙ (ap chars (sym joined) ∙ chars-append front back (utf8_front k (pieces run) all));
      place = ap length (encodes-chars front (utf8_front k (pieces run) all));
    }

-- ---- a place behind more clusters is not before

concat-take-le : (ps : List (List ℕ)) (j k : ℕ) → j ≤ k → length (concat (take j ps)) ≤ length (concat (take k ps))
concat-take-le ps zero k le = omega arith
concat-take-le ps (suc j) zero le = absurd (omega arith)
concat-take-le [] (suc j) (suc k) le = omega arith
concat-take-le (p ∷ ps) (suc j) (suc k) le =
    omega (arith, concat-take-le ps j k (omega arith), length-append p (concat (take j ps)), length-append p (concat (take k ps)))

pub in_order : (run : Run) (from to low : ℕ) → from ≤ to → place_behind run (from - low) ≤ place_behind run (to - low)
in_order run from to low le = concat-take-le (pieces run) (from - low) (to - low) (omega arith)
