-- The parts of a line, joined, are the text of its clusters.
use Rattle.std.proofs.Common.{◌≡◌, ℕ, zero, suc, ◌+◌, ◌-◌, ◌<◌, ◌≤◌, ◌⊎◌, Bool, true, false, cond, ◌&&◌, ◌||◌, eqb, ltb, List, [], ◌∷◌, ◌++◌, length, take, drop, slice_range, encode_utf8_all, refl, sym, ap, ◌∙◌, subst, inl, inr, arith, length-append, append_assoc, take_at, drop_at}
use Rattle.std.specs.List.{All, flat_map, concat}
use Rattle.std.proofs.lemmas.Bool.{cases_lt, cases_eq}
use Rattle.std.proofs.lemmas.Bool.Decides.{nat_tests}
use Rattle.std.proofs.lemmas.List.{append-nil, drop_all, take-append-drop, take-take, drop-take}
use Rattle.std.proofs.lemmas.List.Concat.{flat_map-append}
use Rattle.text_units.proofs.ClusterLemmas.{clusters-concat}
use Rattle.result_origin.specs.declared.pages.Run.{Run}
use Rattle.result_origin.specs.Pages.{shown_bytes}
use Rattle.line_fill.specs.declared.spans.Span.{Span}
use Rattle.line_fill.specs.Clusters.{pieces, clusters_in, place_behind}
use Rattle.line_fill.specs.Parts.{has_empty, stands, part_of, part_in, parts_from}
use Rattle.line_fill.specs.Laws.{IsText}
use Rattle.line_fill.proofs.Places.{length-clusters_from, concat-take-drop}

-- ---- pieces of texts

pub concat-append : (xs ys : List (List ℕ)) → concat (xs ++ ys) ≡ concat xs ++ concat ys
concat-append [] ys = refl
concat-append (x ∷ xs) ys = ap (λ bs. x ++ bs) (concat-append xs ys) ∙ sym (append_assoc x (concat xs) (concat ys))

none_of : {A : Type 0} → (a n : ℕ) → take n (drop a (let none : List A = [] in none)) ≡ []
none_of zero zero = refl
none_of zero (suc n) = refl
none_of (suc a) zero = refl
none_of (suc a) (suc n) = refl

same_cut : {A : Type 0} → (ys : List A) (k l a b : ℕ) → k ≡ l → a ≡ b → take k (drop a ys) ≡ take l (drop b ys)
same_cut ys k l a b e f = λ i. take (e i) (drop (f i) ys)

-- so many from a place on, among two lists
across : {A : Type 0} → (xs ys : List A) (a k : ℕ) → take k (drop a (xs ++ ys)) ≡ take k (drop a xs) ++ take (k - (length xs - a)) (drop (a - length xs) ys)
across [] ys a k =
    same_cut ys k (k - (0 - a)) a (a - 0) (omega arith) (omega arith) ∙ ap (λ zs. zs ++ take (k - (0 - a)) (drop (a - 0) ys)) (sym (none_of a k))
across (x ∷ xs) ys zero zero = same_cut ys 0 (0 - (suc (length xs) - 0)) 0 (0 - suc (length xs)) (omega arith) (omega arith)
across (x ∷ xs) ys zero (suc k) =
    ap (λ zs. x ∷ zs) (across xs ys zero k)
    ∙ ap (λ zs. x ∷ (take k xs ++ zs)) (same_cut ys (k - (length xs - 0)) (suc k - (suc (length xs) - 0)) (0 - length xs) (0 - suc (length xs)) (omega arith) (omega arith))
across (x ∷ xs) ys (suc a) k =
    across xs ys a k
    ∙ ap (λ zs. take k (drop a xs) ++ zs) (same_cut ys (k - (length xs - a)) (k - (suc (length xs) - suc a)) (a - length xs) (suc a - suc (length xs)) (omega arith) (omega arith))

take_two : {A : Type 0} → (xs : List A) (a b : ℕ) → a ≤ b → take b xs ≡ take a xs ++ take (b - a) (drop a xs)
take_two xs a b le =
    let whole : a + (b - a) ≡ b = omega arith in
    sym (take-append-drop a (take b xs))
    ∙ (λ i. take-take a b xs le i ++ drop a (take (sym whole i) xs))
    ∙ ap (λ ys. take a xs ++ ys) (drop-take a (b - a) xs)

-- the bytes between two of the places behind pieces are those of the pieces between
cut_pieces : (ps : List (List ℕ)) (a b : ℕ) → a ≤ b → take (length (concat (take b ps)) - length (concat (take a ps))) (drop (length (concat (take a ps))) (concat ps)) ≡ concat (take (b - a) (drop a ps))
cut_pieces ps a b le =
    let front : List ℕ = concat (take a ps) in
    let middle : List ℕ = concat (take (b - a) (drop a ps)) in
    let back : List ℕ = concat (drop (b - a) (drop a ps)) in
    let whole : concat ps ≡ front ++ (middle ++ back) = sym (concat-take-drop a ps) ∙ ap (λ bs. front ++ bs) (sym (concat-take-drop (b - a) (drop a ps))) in
    let both : concat (take b ps) ≡ front ++ middle = ap concat (take_two ps a b le) ∙ concat-append (take a ps) (take (b - a) (drop a ps)) in
    let many : length (concat (take b ps)) - length front ≡ length middle = omega (arith, ap length both, length-append front middle) in
    (λ i. take (many i) (drop (length front) (whole i)))
    ∙ (ap (take (length middle)) (drop_at front (middle ++ back) (length front) refl) ∙ take_at middle back (length middle) refl)

-- ---- one run

not_shown : (from to next low high : ℕ) (other : Bool) → to ≤ next → cond (eqb low high) other ((ltb low next && ltb from high) || (eqb from next && eqb from high)) ≡ false →
    (low ≡ high) ⊎ ((to ≤ low) ⊎ (high ≤ from))
not_shown from to next low high other le off =
    elim (cases_lt low next) [
      | inr past ↦ inr (inl (omega arith))
      | inl lt ↦
          elim (cases_lt from high) [
            | inr before ↦ inr (inr before)
            | inl there ↦
                elim (cases_eq low high) [
                  | inl same ↦ inl same
                  | inr differ ↦ absurd (contra from next low high other lt there differ off)
                ]
          ]
    ]
  where
    contra : (from next low high : ℕ) (other : Bool) → low < next → from < high → (low ≡ high → ⊥) →
        cond (eqb low high) other ((ltb low next && ltb from high) || (eqb from next && eqb from high)) ≡ false → ⊥
    contra from next low high other lt there differ off = grind (arith, nat_tests)

nothing_there : (from to low : ℕ) (ps : List (List ℕ)) → (low ≡ low + length ps) ⊎ ((to ≤ low) ⊎ (low + length ps ≤ from)) → [] ≡ concat (take ((to - low) - (from - low)) (drop (from - low) ps))
nothing_there from to low ps why = sym (ap concat none)
  where
    empty : length ps ≤ from - low → take ((to - low) - (from - low)) (drop (from - low) ps) ≡ []
    empty le = ap (take ((to - low) - (from - low))) (drop_all (from - low) ps le) ∙ none_of 0 ((to - low) - (from - low))

    none : take ((to - low) - (from - low)) (drop (from - low) ps) ≡ []
    none =
        elim why [
          | inl same ↦ empty (omega arith)
          | inr other ↦
              elim other [
                | inl behind ↦ let zero_long : (to - low) - (from - low) ≡ 0 = omega arith in ap (λ n. take n (drop (from - low) ps)) zero_long
                | inr before ↦ empty (omega arith)
              ]
        ]

part_shows : (span : Span) (low : ℕ) (run : Run) → IsText run → span.from ≤ span.to → span.to ≤ span.next →
    flat_map shown_bytes (part_in span low run) ≡ concat (take ((span.to - low) - (span.from - low)) (drop (span.from - low) (pieces run)))
part_shows span low run text ordered behind = by_test (stands span low (low + length (clusters_in run))) refl
  where
    shown : shown_bytes (part_of span low run) ≡ concat (take ((span.to - low) - (span.from - low)) (drop (span.from - low) (pieces run)))
    shown = ap (λ bytes. take (place_behind run (span.to - low) - place_behind run (span.from - low)) (drop (place_behind run (span.from - low)) bytes)) (sym (clusters-concat (encode_utf8_all run.text) text))
        ∙ cut_pieces (pieces run) (span.from - low) (span.to - low) (omega arith)

    by_test : (b : Bool) → stands span low (low + length (clusters_in run)) ≡ b →
        flat_map shown_bytes (cond b (part_of span low run ∷ []) []) ≡ concat (take ((span.to - low) - (span.from - low)) (drop (span.from - low) (pieces run)))
    by_test true is = append-nil (shown_bytes (part_of span low run)) ∙ shown
    by_test false is =
        let many : length (clusters_in run) ≡ length (pieces run) = length-clusters_from run.face.size 0 (pieces run) in
        nothing_there span.from span.to low (pieces run)
        (subst (λ n. (low ≡ low + n) ⊎ ((span.to ≤ low) ⊎ (low + n ≤ span.from))) many
        (not_shown span.from span.to span.next low (low + length (clusters_in run)) (has_empty span low) behind is))

-- ---- all runs

pub parts_show : (span : Span) (low : ℕ) (runs : List Run) → All IsText runs → span.from ≤ span.to → span.to ≤ span.next →
    flat_map shown_bytes (parts_from span low runs) ≡ concat (take ((span.to - low) - (span.from - low)) (drop (span.from - low) (flat_map pieces runs)))
parts_show span low [] texts ordered behind = sym (ap concat (none_of (span.from - low) ((span.to - low) - (span.from - low))))
parts_show span low (run ∷ runs) texts ordered behind =
    let many : length (clusters_in run) ≡ length (pieces run) = length-clusters_from run.face.size 0 (pieces run) in
    let high : ℕ = low + length (clusters_in run) in
    let k : ℕ = (span.to - low) - (span.from - low) in
    let a : ℕ = span.from - low in
    let rest = parts_show span high runs (λ i d lt. texts (suc i) d (omega arith)) ordered behind in
    flat_map-append shown_bytes (part_in span low run) (parts_from span high runs)
    ∙ ((λ i. part_shows span low run (texts 0 run (omega arith)) ordered behind i ++ rest i)
    ∙ (ap (λ pieces_left. concat (take k (drop a (pieces run))) ++ concat pieces_left)
    (same_cut (flat_map pieces runs) ((span.to - high) - (span.from - high)) (k - (length (pieces run) - a)) (span.from - high) (a - length (pieces run)) (omega arith) (omega arith))
    ∙ (sym (concat-append (take k (drop a (pieces run))) (take (k - (length (pieces run) - a)) (drop (a - length (pieces run)) (flat_map pieces runs))))
    ∙ ap concat (sym (across (pieces run) (flat_map pieces runs) a k)))))

pub shows_clusters : (runs : List Run) (span : Span) → All IsText runs → span.from ≤ span.to → span.to ≤ span.next →
    flat_map shown_bytes (parts_from span 0 runs) ≡ concat (slice_range (flat_map pieces runs) span.from span.to)
shows_clusters runs span texts ordered behind =
    parts_show span 0 runs texts ordered behind
    ∙ ap concat (same_cut (flat_map pieces runs) ((span.to - 0) - (span.from - 0)) (span.to - span.from) (span.from - 0) span.from (omega arith) (omega arith))
