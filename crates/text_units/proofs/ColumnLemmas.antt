-- A text is at most two columns a byte wide, by itself and cluster by cluster.
use Rattle.std.proofs.Common.{◌≡◌, ℕ, ◌+◌, ◌*◌, ◌<◌, ◌≤◌, Bool, true, false, not, ◌&&◌, ◌==◌, nat_le, cond, List, [], ◌∷◌, length, Option, None, Some, refl, ap, arith, length-append}
use Rattle.std.proofs.lemmas.Bool.{leb-false}
use Rattle.std.proofs.lemmas.Bool.Decides.{nat_tests}
use Rattle.std.proofs.lemmas.List.Sums.{sum_by-cons}
use Rattle.std.proofs.lemmas.Str.{length-encode, len_utf8_bounds, encodes-chars}
use Rattle.std.specs.Int.{is_in_range}
use Rattle.std.specs.List.{concat, sum_by}
use Rattle.std.specs.Prelude.{encode_utf8, encode_utf8_all}
use Rattle.std.specs.Str.{chars, IsUtf8}
use Rattle.unicode_segmentation.proofs.SegmentsLemmas.{AllPieces}
use Rattle.unicode_width.specs.declared.state.After.{After}
use Rattle.unicode_width.specs.declared.state.Change.{Change}
use Rattle.unicode_width.specs.declared.state.Change.TheVariants.{Less, Same, One, Three}
use Rattle.unicode_width.specs.declared.state.State.{State}
use Rattle.unicode_width.specs.Kind.{is_ligature_transparent, is_solidus_transparent, is_text_presentation_base}
use Rattle.unicode_width.specs.Width.{Reading, plain, alone, char_width, joins, joined_or, is_joined_emoji, is_solidus, is_striking, is_line_feed, is_quote, is_quote_selector, is_plain, if_kept, skips_marks, past_selectors, in_context, past_emoji, step, read_before, str_width, is_emoji_variation_base}
use Rattle.unicode_width.proofs.Rules.{width_or_zero-le}
use Rattle.text_units.specs.Clusters.{clusters_of}
use Rattle.text_units.specs.Columns.{is_blank, columns_of}
use Rattle.text_units.proofs.ClusterLemmas.{clusters-concat, clusters-utf8}

cond-le : (b : Bool) (x y : Reading) (n : ℕ) → x.0 ≤ n → (b ≡ false → y.0 ≤ n) → (cond b x y).0 ≤ n
cond-le true x y n p q = p
cond-le false x y n p q = q refl

choice-le : (b : Bool) (m n : ℕ) → m ≤ 2 → n ≤ 2 → cond b m n ≤ 2
choice-le true m n p q = p
choice-le false m n p q = q

alone-le : (cjk : Bool) (c : ℕ) → 0xA0 < c → (alone cjk c).0 ≤ 3
unfolding char_width
alone-le cjk c high = grind (arith, nat_tests, width_or_zero-le cjk c)

joined_or-le : (total : ℕ) (joined : Option (Change × After)) (own : ℕ × State) → own.0 ≤ 3 → (joined_or total joined own).0 ≤ total + 3
joined_or-le total None own le = omega arith
joined_or-le total (Some (Less, next)) own le = omega arith
joined_or-le total (Some (Same, next)) own le = omega arith
joined_or-le total (Some (One, next)) own le = omega arith
joined_or-le total (Some (Three, next)) own le = omega arith

past_selectors-le : (cjk : Bool) (c total : ℕ) (after : After) → 0xA0 < c → (past_selectors cjk c total after).0 ≤ total + 3
unfolding past_selectors
past_selectors-le cjk c total after high =
    let own = alone-le cjk c high in
    cond-le (skips_marks after && (c == 0x200D)) _ _ (total + 3) (omega arith) (λ _.
    cond-le (skips_marks after && is_ligature_transparent c) _ _ (total + 3) (omega arith) (λ _.
    cond-le ((cjk && is_solidus after) && is_solidus_transparent c) _ _ (total + 3) (omega arith) (λ _.
    joined_or-le total (joins cjk after c) (alone cjk c) own)))

in_context-le : (cjk : Bool) (c total : ℕ) (s : State) → 0xA0 < c → (in_context cjk c total s).0 ≤ total + 3
unfolding in_context
in_context-le cjk c total s high =
    cond-le (c == 0xFE0F) _ _ (total + 3) (omega arith) (λ _.
    cond-le (is_quote_selector cjk c) _ _ (total + 3) (omega arith) (λ _.
    cond-le (not cjk && (c == 0xFE0E)) _ _ (total + 3) (omega arith) (λ _.
    cond-le (s.text && is_text_presentation_base c) _ _ (total + 3) (omega arith) (λ _.
    cond-le (s.quote && is_quote c) _ _ (total + 3) (omega (arith, choice-le cjk 1 2 (omega arith) (omega arith))) (λ _.
    past_selectors-le cjk c total s.after high)))))

-- a bound that leaves two columns to each character, and three to those past U+00A0
past_emoji-le : (cjk : Bool) (c total : ℕ) (s : State) (n : ℕ) → total + 2 ≤ n → (0xA0 < c → total + 3 ≤ n) → (past_emoji cjk c total s).0 ≤ n
unfolding past_emoji
past_emoji-le cjk c total s n low high =
    cond-le (((cjk && is_striking s.after) && not s.quote) && is_in_range 0x3C 0x3E c) _ _ n low (λ _.
    cond-le (c == 0x0A) _ _ n (omega arith) (λ _.
    cond-le ((c == 0x0D) && is_line_feed s.after) _ _ n (omega arith) (λ _.
    cond-le (nat_le c 0xA0) _ _ n (omega arith) (λ past.
    let above = leb-false c 0xA0 past in
    let room = high above in
    cond-le (is_plain s) _ _ n (omega (arith, alone-le cjk c above)) (λ _.
    omega (arith, in_context-le cjk c total s above))))))

step-le : (cjk : Bool) (c : ℕ) (r : Reading) (n : ℕ) → r.0 + 2 ≤ n → (0xA0 < c → r.0 + 3 ≤ n) → (step cjk c r).0 ≤ n
unfolding step
step-le cjk c (total, s) n low high =
    cond-le (not s.emoji) _ _ n (past_emoji-le cjk c total s n low high) (λ _.
    cond-le (is_emoji_variation_base c) _ _ n (omega (arith, choice-le (is_joined_emoji s.after) 0 2 (omega arith) (omega arith))) (λ _.
    past_emoji-le cjk c total (record (if_kept s) { emoji = false }) n low high))

two_bytes : (c : ℕ) → 0xA0 < c → 2 ≤ length (encode_utf8 c)
two_bytes c h = grind (arith, nat_tests, length-encode c)

read_before-le : (cjk : Bool) (cs : List ℕ) → (read_before cjk cs (0, plain)).0 ≤ 2 * length (encode_utf8_all cs)
read_before-le cjk [] = omega arith
read_before-le cjk (c ∷ cs) =
    let rest = read_before-le cjk cs in
    let size = length-append (encode_utf8 c) (encode_utf8_all cs) in
    step-le cjk c (read_before cjk cs (0, plain)) (2 * length (encode_utf8_all (c ∷ cs)))
    (omega (arith, length-encode c, (len_utf8_bounds c).0)) (λ high. omega (arith, two_bytes c high))

-- the width of a text, by the bytes of its characters
pub str_width-le : (cjk : Bool) (cs : List ℕ) → str_width cjk cs ≤ 2 * length (encode_utf8_all cs)
unfolding str_width
str_width-le cjk cs = read_before-le cjk cs

blank-nonempty : (cluster : List ℕ) → is_blank cluster ≡ true → 0 < length cluster
blank-nonempty [] h = cc
blank-nonempty (b ∷ bs) h = omega arith

pub columns_of-le : (cluster : List ℕ) → IsUtf8 cluster → columns_of cluster ≤ 2 * length cluster
columns_of-le cluster u = by_blank (is_blank cluster) refl
  where
    by_blank : (b : Bool) → is_blank cluster ≡ b → cond b 1 (str_width false (chars cluster)) ≤ 2 * length cluster
    by_blank true e = omega (arith, blank-nonempty cluster e)
    by_blank false e = omega (arith, str_width-le false (chars cluster), ap length (encodes-chars cluster u))

sum_by-columns_of-le : (ps : List (List ℕ)) → AllPieces IsUtf8 ps → sum_by columns_of ps ≤ 2 * length (concat ps)
sum_by-columns_of-le [] u = omega arith
sum_by-columns_of-le (p ∷ ps) u =
    omega (arith, columns_of-le p u.0, sum_by-columns_of-le ps u.1, length-append p (concat ps), sum_by-cons columns_of p ps)

-- the columns of all clusters of a text
pub clusters-columns-le : (text : List ℕ) → IsUtf8 text → sum_by columns_of (clusters_of text) ≤ 2 * length text
clusters-columns-le text u =
    omega (arith, sum_by-columns_of-le (clusters_of text) (clusters-utf8 text u), ap length (clusters-concat text u))
