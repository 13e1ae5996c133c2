-- What the boundaries of a text are: places of it that rise, and those that the rules of UAX 29 break at.
use Rattle.std.proofs.Common.{◌≡◌, ℕ, ◌+◌, ◌<◌, ◌≤◌, zero, suc, Bool, true, false, cond, ◌||◌, nat_eq, List, [], ◌∷◌, ◌++◌, map, reverse, length, take, drop, slice_index, refl, sym, ap, ap₂, subst, ◌∙◌, arith, append_assoc, append-nil, length-append, take-append-drop, length-take-le, eq-eqb, ne_eqb, eqb-true}
use Rattle.std.proofs.lemmas.List.{reverse-append}
use Rattle.std.proofs.lemmas.List.Elements.{All-from_recursion, All-contains}
use Rattle.std.proofs.lemmas.List.Folds.{list_any-from_Any}
use Rattle.std.proofs.lemmas.Map.Views.{Contains-from_any}
use Rattle.std.proofs.lemmas.Str.{chars-append, encodes-chars, IsUtf8-take, IsUtf8-past_char, IsCharBoundary-end, IsCharBoundary-at_seam}
use Rattle.std.specs.List.{concat, list_any, AllByRecursion, Contains}
use Rattle.std.specs.List.Sorted.{IsStrictlyIncreasing}
use Rattle.std.specs.Prelude.{encode_utf8, encode_utf8_all}
use Rattle.std.specs.Str.{chars, IsUtf8}
use Rattle.unicode_segmentation.specs.Grapheme.{is_grapheme_break}
use Rattle.unicode_segmentation.specs.Segments.{Rule, breaks_at, cut, segments}
use Rattle.unicode_segmentation.proofs.CursorLemmas.{breaks_at-end}
use Rattle.unicode_segmentation.proofs.SegmentsLemmas.{attach, AllPieces, concat-segments, segments_nonempty}
use Rattle.unicode_segmentation.proofs.TextLemmas.{encode_utf8_nonempty}
use Rattle.text_units.specs.Clusters.{clusters_of}
use Rattle.text_units.specs.Boundaries.{IsPlace, boundaries_from, cluster_boundaries, IsBoundary}

-- ---- boundaries are places

IsUtf8-past : (cs rest : List ℕ) → IsUtf8 (encode_utf8_all cs ++ rest) → IsUtf8 rest
IsUtf8-past [] rest u = u
IsUtf8-past (c ∷ cs) rest u = IsUtf8-past cs rest (IsUtf8-past_char _ _ c u (append_assoc (encode_utf8 c) (encode_utf8_all cs) rest))

boundaries_from-places : (front : List ℕ) (ps : List (List ℕ)) (s : List ℕ) → s ≡ front ++ concat (map encode_utf8_all ps)
    → IsUtf8 (concat (map encode_utf8_all ps)) → AllByRecursion (IsPlace s) (boundaries_from (length front) (map encode_utf8_all ps))
unfolding boundaries_from
boundaries_from-places front [] s e u = (IsCharBoundary-at_seam s front [] e u, tt)
boundaries_from-places front (cs ∷ ps) s e u =
    let p = encode_utf8_all cs in
    let rest = concat (map encode_utf8_all ps) in (
      IsCharBoundary-at_seam s front (p ++ rest) e u,
      subst (λ n. AllByRecursion (IsPlace s) (boundaries_from n (map encode_utf8_all ps))) (length-append front p)
          (boundaries_from-places (front ++ p) ps s (e ∙ sym (append_assoc front p rest)) (IsUtf8-past cs rest u)),
    )

-- each boundary is a place of the text
pub IsPlace-boundary : (text : List ℕ) (at : ℕ) → IsUtf8 text → IsBoundary text at → IsPlace text at
unfolding IsBoundary cluster_boundaries segments
IsPlace-boundary text at u b =
    let whole = concat-segments (is_grapheme_break true) text u in
    All-contains (IsPlace text) _ at
    (All-from_recursion (IsPlace text) _
    (boundaries_from-places [] (cut (is_grapheme_break true) [] (chars text) []) text (sym whole) (subst IsUtf8 (sym whole) u)))
    b

-- ---- boundaries rise

rises-cons : (x : ℕ) (xs : List ℕ) → (0 < length xs → x < slice_index xs 0) → IsStrictlyIncreasing xs → IsStrictlyIncreasing (x ∷ xs)
rises-cons x xs below rise zero inside = below (omega arith)
rises-cons x xs below rise (suc k) inside =
    let e : suc (k + 1) ≡ suc k + 1 = omega arith in
    subst (λ n. slice_index xs k < slice_index (x ∷ xs) n) e (rise k (omega arith))

boundaries_from-head : (n : ℕ) (ps : List (List ℕ)) → slice_index (boundaries_from n ps) 0 ≡ n
unfolding boundaries_from
boundaries_from-head n [] = refl
boundaries_from-head n (p ∷ ps) = refl

pub boundaries_from-rise : (n : ℕ) (ps : List (List ℕ)) → AllPieces (λ p. 0 < length p) ps → IsStrictlyIncreasing (boundaries_from n ps)
unfolding boundaries_from
boundaries_from-rise n [] some = rises-cons n [] (λ h. absurd (omega arith)) (λ k h. absurd (omega arith))
boundaries_from-rise n (p ∷ ps) some =
    rises-cons n (boundaries_from (n + length p) ps) (λ h. omega (arith, boundaries_from-head (n + length p) ps, some.0))
    (boundaries_from-rise (n + length p) ps some.1)

-- each boundary is below the next
pub cluster_boundaries-rise : (text : List ℕ) → IsStrictlyIncreasing (cluster_boundaries text)
unfolding cluster_boundaries
cluster_boundaries-rise text = boundaries_from-rise 0 (clusters_of text) (segments_nonempty (is_grapheme_break true) text)

-- ---- boundaries are where the rules break

-- the places past `from` at which the rule breaks, in characters cs that begin at `from` and follow those of `before`, nearest first
unfoldable breaks_past : Rule → ℕ → List ℕ → List ℕ → List ℕ
breaks_past rule from before [] = []
breaks_past rule from before (c ∷ cs) =
    let to = from + length (encode_utf8 c) in
    let later = breaks_past rule to (c ∷ before) cs in
    cond (rule (c ∷ before) (cs ++ [])) (to ∷ later) later

boundaries_from-attach : (b : Bool) (c : ℕ) (ps : List (List ℕ)) (from : ℕ) (later : List ℕ)
    → boundaries_from (from + length (encode_utf8 c)) (map encode_utf8_all ps) ≡ (from + length (encode_utf8 c)) ∷ later
    → (b ≡ false → 0 < length ps)
    → boundaries_from from (map encode_utf8_all (attach b (c ∷ []) ps)) ≡ from ∷ cond b ((from + length (encode_utf8 c)) ∷ later) later
unfolding boundaries_from
boundaries_from-attach true c ps from later e some =
    ap (λ p. from ∷ boundaries_from (from + length p) (map encode_utf8_all ps)) (append-nil (encode_utf8 c)) ∙ ap (λ t. from ∷ t) e
boundaries_from-attach false c [] from later e some = absurd (omega (arith, some refl))
boundaries_from-attach false c (p ∷ ps) from later e some =
    let to = from + length (encode_utf8 c) in
    let width : from + length (encode_utf8 c ++ encode_utf8_all p) ≡ to + length (encode_utf8_all p) =
    omega (arith, length-append (encode_utf8 c) (encode_utf8_all p)) in
    ap (λ n. from ∷ boundaries_from n (map encode_utf8_all ps)) width ∙ ap (λ t. from ∷ drop 1 t) e

cut-nonempty : (rule : Rule) (before cs : List ℕ) → 0 < length cs → 0 < length (cut rule before cs [])
unfolding cut
cut-nonempty rule before [] some = some
cut-nonempty rule before (c ∷ cs) some = attach-nonempty (rule (c ∷ before) (cs ++ [])) (cut rule (c ∷ before) cs [])
  where
    attach-nonempty : (b : Bool) (ps : List (List ℕ)) → 0 < length (attach b (c ∷ []) ps)
    attach-nonempty true ps = omega arith
    attach-nonempty false [] = omega arith
    attach-nonempty false (p ∷ ps) = omega arith

boundaries_from-cut : (rule : Rule) → ((before : List ℕ) → rule before [] ≡ true) → (from : ℕ) (before cs : List ℕ)
    → boundaries_from from (map encode_utf8_all (cut rule before cs [])) ≡ from ∷ breaks_past rule from before cs
unfolding boundaries_from cut breaks_past
boundaries_from-cut rule ends from before [] = refl
boundaries_from-cut rule ends from before (c ∷ cs) =
    boundaries_from-attach (rule (c ∷ before) (cs ++ [])) c (cut rule (c ∷ before) cs []) from _
    (boundaries_from-cut rule ends (from + length (encode_utf8 c)) (c ∷ before) cs) (inside cs)
  where
    inside : (cs : List ℕ) → rule (c ∷ before) (cs ++ []) ≡ false → 0 < length (cut rule (c ∷ before) cs [])
    inside [] joined = let broken = ends (c ∷ before) in cc
    inside (d ∷ ds) joined = cut-nonempty rule (c ∷ before) (d ∷ ds) (omega arith)

-- the place is in the list
abbrev has : ℕ → List ℕ → Bool
has at xs = list_any (nat_eq at) xs

has-cond : (b : Bool) (at x : ℕ) (xs : List ℕ) → has at (cond b (x ∷ xs) xs) ≡ cond b (nat_eq at x || has at xs) (has at xs)
has-cond true at x xs = refl
has-cond false at x xs = refl

has-cons_other : (at x : ℕ) (xs : List ℕ) → (at ≡ x → ⊥) → (nat_eq at x || has at xs) ≡ has at xs
has-cons_other at x xs other = ap (λ t. t || has at xs) (ne_eqb at x other)

cond-same : (b : Bool) (x y z : Bool) → x ≡ z → y ≡ z → cond b x y ≡ z
cond-same true x y z p q = p
cond-same false x y z p q = q

-- no break past `from` is at `from` or before it
breaks_past-none : (rule : Rule) (from : ℕ) (before cs : List ℕ) (at : ℕ) → at ≤ from → has at (breaks_past rule from before cs) ≡ false
unfolding breaks_past
breaks_past-none rule from before [] at low = refl
breaks_past-none rule from before (c ∷ cs) at low =
    let to = from + length (encode_utf8 c) in
    let some = encode_utf8_nonempty c in
    let later = breaks_past-none rule to (c ∷ before) cs at (omega arith) in
    has-cond (rule (c ∷ before) (cs ++ [])) at to (breaks_past rule to (c ∷ before) cs)
    ∙ cond-same (rule (c ∷ before) (cs ++ [])) _ _ false (has-cons_other at to _ (λ e. omega arith) ∙ later) later

-- the characters of cs in reverse, and then `before`
abbrev onto : List ℕ → List ℕ → List ℕ
onto [] before = before
onto (c ∷ cs) before = onto cs (c ∷ before)

onto-reverse : (cs before : List ℕ) → onto cs (reverse before) ≡ reverse (before ++ cs)
onto-reverse [] before = ap reverse (sym (append-nil before))
onto-reverse (c ∷ cs) before =
    ap (onto cs) (sym (reverse-append before (c ∷ []))) ∙ onto-reverse cs (before ++ c ∷ []) ∙ ap reverse (append_assoc before (c ∷ []) cs)

-- past some characters there is a break exactly where the rule breaks between them and the rest
breaks_past-has : (rule : Rule) (from : ℕ) (before : List ℕ) (c : ℕ) (xs ys : List ℕ) (at : ℕ) → at ≡ from + length (encode_utf8_all (c ∷ xs))
    → has at (breaks_past rule from before (c ∷ (xs ++ ys))) ≡ rule (onto xs (c ∷ before)) (ys ++ [])
unfolding breaks_past
breaks_past-has rule from before c [] ys at e =
    let to = from + length (encode_utf8 c) in
    let here : at ≡ to = omega (arith, length-append (encode_utf8 c) []) in
    let later = breaks_past-none rule to (c ∷ before) ys at (omega arith) in
    has-cond (rule (c ∷ before) (ys ++ [])) at to (breaks_past rule to (c ∷ before) ys)
    ∙ decided (rule (c ∷ before) (ys ++ [])) (nat_eq at to) (has at (breaks_past rule to (c ∷ before) ys)) (eq-eqb at to here) later
  where
    decided : (b x y : Bool) → x ≡ true → y ≡ false → cond b (x || y) y ≡ b
    decided true x y p q = ap (λ t. t || y) p
    decided false x y p q = q
breaks_past-has rule from before c (d ∷ xs) ys at e =
    let to = from + length (encode_utf8 c) in
    let some = encode_utf8_nonempty d in
    let sum : at ≡ to + length (encode_utf8_all (d ∷ xs)) = omega (arith, length-append (encode_utf8 c) (encode_utf8_all (d ∷ xs))) in
    let past : to < at = omega (arith, length-append (encode_utf8 d) (encode_utf8_all xs)) in
    let later = breaks_past-has rule to (c ∷ before) d xs ys at sum in
    has-cond (rule (c ∷ before) ((d ∷ (xs ++ ys)) ++ [])) at to (breaks_past rule to (c ∷ before) (d ∷ (xs ++ ys)))
    ∙ cond-same (rule (c ∷ before) ((d ∷ (xs ++ ys)) ++ [])) _ _ _ (has-cons_other at to _ (λ same. omega arith) ∙ later) later

-- GB2
ends-break : (before : List ℕ) → is_grapheme_break true before [] ≡ true
unfolding is_grapheme_break
ends-break [] = refl
ends-break (c ∷ before) = refl

has-cluster_boundaries : (text : List ℕ) (at : ℕ) → IsUtf8 text → IsPlace text at
    → has at (cluster_boundaries text) ≡ breaks_at (is_grapheme_break true) text at
unfolding cluster_boundaries segments is_grapheme_break
has-cluster_boundaries text at u place =
    let front = chars (take at text) in
    let back = chars (drop at text) in
    let split : chars text ≡ front ++ back =
    ap chars (sym (take-append-drop at text)) ∙ chars-append (take at text) (drop at text) (IsUtf8-take text at u place) in
    let width : length (encode_utf8_all front) ≡ at =
    ap length (encodes-chars (take at text) (IsUtf8-take text at u place)) ∙ length-take-le at text place.0 in
    ap (has at) (boundaries_from-cut (is_grapheme_break true) ends-break 0 [] (chars text)
    ∙ ap (λ cs. 0 ∷ breaks_past (is_grapheme_break true) 0 [] cs) split)
    ∙ by_front front width
  where
    by_front : (front : List ℕ) → length (encode_utf8_all front) ≡ at
        → has at (0 ∷ breaks_past (is_grapheme_break true) 0 [] (front ++ chars (drop at text)))
        ≡ is_grapheme_break true (reverse front) (chars (drop at text))
    by_front [] width = ap (λ t. t || has at (breaks_past (is_grapheme_break true) 0 [] (chars (drop at text)))) (eq-eqb at 0 (sym width))
    by_front (c ∷ xs) width =
        let some = encode_utf8_nonempty c in
        let past : 0 < at = omega (arith, width, length-append (encode_utf8 c) (encode_utf8_all xs)) in
        has-cons_other at 0 _ (λ e. omega arith)
        ∙ breaks_past-has (is_grapheme_break true) 0 [] c xs (chars (drop at text)) at (omega (arith, width))
        ∙ ap₂ (is_grapheme_break true) (onto-reverse (c ∷ xs) []) (append-nil (chars (drop at text)))

-- the rules of UAX 29 break at the place
abbrev pub Breaks : List ℕ → ℕ → Type 0
Breaks text at = breaks_at (is_grapheme_break true) text at ≡ true

pub IsBoundary-from_break : (text : List ℕ) (at : ℕ) → IsUtf8 text → IsPlace text at → Breaks text at → IsBoundary text at
unfolding IsBoundary
IsBoundary-from_break text at u place breaks =
    Contains-from_any eqb-true at (cluster_boundaries text) (has-cluster_boundaries text at u place ∙ breaks)

-- the start of a text is a boundary, and its end
pub IsBoundary-start : (text : List ℕ) → IsBoundary text 0
unfolding IsBoundary cluster_boundaries boundaries_from
IsBoundary-start text = first (clusters_of text)
  where
    first : (ps : List (List ℕ)) → Contains (boundaries_from 0 ps) 0
    first [] = (0, omega arith, refl)
    first (p ∷ ps) = (0, omega arith, refl)

pub IsBoundary-end : (text : List ℕ) → IsUtf8 text → IsBoundary text (length text)
IsBoundary-end text u =
    IsBoundary-from_break text (length text) u (IsCharBoundary-end text) (sym (breaks_at-end true text (length text) refl))

pub break_from-IsBoundary : (text : List ℕ) (at : ℕ) → IsUtf8 text → IsBoundary text at → Breaks text at
unfolding IsBoundary
break_from-IsBoundary text at u b =
    sym (has-cluster_boundaries text at u (IsPlace-boundary text at u b)) ∙ has-member at (cluster_boundaries text) b
  where
    has-member : (at : ℕ) (xs : List ℕ) → Contains xs at → has at xs ≡ true
    has-member at xs found = list_any-from_Any (nat_eq at) xs (found.0, at, found.1, found.2, eq-eqb at at refl)
