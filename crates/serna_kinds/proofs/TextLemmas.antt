-- Texts that are changed at a place.
use Rattle.std.proofs.Common.{◌≡◌, ℕ, zero, suc, ◌+◌, ◌-◌, ◌/◌, ◌<◌, ◌≤◌, List, [], ◌∷◌, ◌++◌, length, take, drop, encode_utf8_all, slice_index, Bool, true, false, refl, sym, ap, ◌∙◌, subst, arith, append_assoc, length-append, cond, ltb, take_at, drop_at, get_or}
use Rattle.std.proofs.lemmas.List.{get_or-drop}
use Rattle.std.specs.List.{insert_slice}
use Rattle.std.specs.String.Boundary.{IsSplitPoint}
use Rattle.std.proofs.lemmas.Str.{encodes-append}
use Rattle.std.specs.Char.{encode_utf8}
use Rattle.std.proofs.lemmas.Bool.{ltb-true}
use Rattle.serna_kinds.specs.Texts.{IsPlaceIn, upto, past, inserted}

abbrev StartsOne : List ℕ → Type 0
StartsOne bs = (0 < length bs) × ((rest : List ℕ) → 128 ≤ slice_index (bs ++ rest) 0 → 192 ≤ slice_index (bs ++ rest) 0)

by_cond : (P : List ℕ → Type 0) (b : Bool) (x y : List ℕ) → (b ≡ true → P x) → (b ≡ false → P y) → P (cond b x y)
by_cond P true x y p q = p refl
by_cond P false x y p q = q refl

above : (h : ℕ) (bs : List ℕ) → 192 ≤ h → StartsOne (h ∷ bs)
above h bs le = (omega arith, λ rest l. le)

low : (c : ℕ) → c < 128 → StartsOne (c ∷ [])
low c is = (omega arith, λ rest l. absurd (omega (arith, is, l)))

-- a character has a byte, and its first byte begins a character
pub starts_one : (c : ℕ) → StartsOne (encode_utf8 c)
unfolding lib.Utf8.encode
starts_one c =
    let four : List ℕ = (240 + c / 262144) ∷ lib.Utf8.next (c / 4096) ∷ lib.Utf8.next (c / 64) ∷ lib.Utf8.next c ∷ [] in
    let three : List ℕ = (224 + c / 4096) ∷ lib.Utf8.next (c / 64) ∷ lib.Utf8.next c ∷ [] in
    let two : List ℕ = (192 + c / 64) ∷ lib.Utf8.next c ∷ [] in
    let more : List ℕ = cond (ltb c 65536) three four in
    by_cond StartsOne (ltb c 128) (c ∷ []) (cond (ltb c 2048) two more) (λ e. low c (ltb-true c 128 e))
    (λ e. by_cond StartsOne (ltb c 2048) two more (λ f. above (192 + c / 64) (lib.Utf8.next c ∷ []) (omega arith))
    (λ f. by_cond StartsOne (ltb c 65536) three four (λ g. above (224 + c / 4096) (lib.Utf8.next (c / 64) ∷ lib.Utf8.next c ∷ []) (omega arith))
    (λ g. above (240 + c / 262144) (lib.Utf8.next (c / 4096) ∷ lib.Utf8.next (c / 64) ∷ lib.Utf8.next c ∷ []) (omega arith))))

-- a place is where what stands before it ends
pub upto-before : (before behind : List ℕ) (at : ℕ) → length (encode_utf8_all before) ≡ at → upto at (before ++ behind) ≡ before
upto-before [] behind at e = ap (λ n. upto n behind) (sym e)
upto-before (c ∷ cs) behind zero e = absurd (omega (arith, e, length-append (encode_utf8 c) (encode_utf8_all cs), (starts_one c).0))
upto-before (c ∷ cs) behind (suc n) e =
    ap (λ ds. c ∷ ds) (upto-before cs behind (suc n - length (encode_utf8 c)) (omega (arith, e, length-append (encode_utf8 c) (encode_utf8_all cs))))

pub past-before : (before behind : List ℕ) (at : ℕ) → length (encode_utf8_all before) ≡ at → past at (before ++ behind) ≡ behind
past-before [] behind at e = ap (λ n. past n behind) (sym e)
past-before (c ∷ cs) behind zero e = absurd (omega (arith, e, length-append (encode_utf8 c) (encode_utf8_all cs), (starts_one c).0))
past-before (c ∷ cs) behind (suc n) e = past-before cs behind (suc n - length (encode_utf8 c)) (omega (arith, e, length-append (encode_utf8 c) (encode_utf8_all cs)))

-- a text with a piece put in: what stands before the place, the piece, what stands behind it
pub inserted-at : (text piece : List ℕ) (at : ℕ) (p : IsPlaceIn text at) → inserted at piece text ≡ p.before ++ (piece ++ p.behind)
inserted-at text piece at p =
    ap (λ t. upto at t ++ (piece ++ past at t)) p.whole
    ∙ ap (λ t. t ++ (piece ++ past at (p.before ++ p.behind))) (upto-before p.before p.behind at p.place)
    ∙ ap (λ t. p.before ++ (piece ++ t)) (past-before p.before p.behind at p.place)

-- the bytes of a text with a piece put in
pub put_in : (text piece : List ℕ) (at : ℕ) → IsPlaceIn text at → insert_slice (encode_utf8_all text) at (encode_utf8_all piece) ≡ encode_utf8_all (inserted at piece text)
put_in text piece at p =
    let two : encode_utf8_all text ≡ encode_utf8_all p.before ++ encode_utf8_all p.behind = ap encode_utf8_all p.whole ∙ encodes-append p.before p.behind in
    ap (λ bs. (take at bs ++ encode_utf8_all piece) ++ drop at bs) two
    ∙ ap (λ bs. (bs ++ encode_utf8_all piece) ++ drop at (encode_utf8_all p.before ++ encode_utf8_all p.behind)) (take_at (encode_utf8_all p.before) (encode_utf8_all p.behind) at p.place)
    ∙ ap (λ bs. (encode_utf8_all p.before ++ encode_utf8_all piece) ++ bs) (drop_at (encode_utf8_all p.before) (encode_utf8_all p.behind) at p.place)
    ∙ append_assoc (encode_utf8_all p.before) (encode_utf8_all piece) (encode_utf8_all p.behind)
    ∙ ap (λ bs. encode_utf8_all p.before ++ bs) (sym (encodes-append piece p.behind))
    ∙ sym (encodes-append p.before (piece ++ p.behind))
    ∙ ap encode_utf8_all (sym (inserted-at text piece at p))

first_at : (front rest : List ℕ) (at : ℕ) → length front ≡ at → slice_index (front ++ rest) at ≡ slice_index rest 0
first_at front rest at e =
    let k : at ≡ at + 0 = omega arith in
    ap (λ n. get_or (front ++ rest) n 0) k ∙ sym (get_or-drop at (front ++ rest) 0 0) ∙ ap (λ l. get_or l 0 0) (drop_at front rest at e)

-- a place between two characters is one at which std cuts
begins : (front behind : List ℕ) (at : ℕ) → length front ≡ at → at < length (front ++ encode_utf8_all behind) → 128 ≤ slice_index (front ++ encode_utf8_all behind) at →
    192 ≤ slice_index (front ++ encode_utf8_all behind) at
begins front [] at e within high = absurd (omega (arith, e, within, length-append front []))
begins front (c ∷ cs) at e within high =
    let here : slice_index (front ++ (encode_utf8 c ++ encode_utf8_all cs)) at ≡ slice_index (encode_utf8 c ++ encode_utf8_all cs) 0 =
    first_at front (encode_utf8 c ++ encode_utf8_all cs) at e in
    let first : 128 ≤ slice_index (encode_utf8 c ++ encode_utf8_all cs) 0 = subst (λ b. 128 ≤ b) here high in
    subst (λ b. 192 ≤ b) (sym here) ((starts_one c).1 (encode_utf8_all cs) first)

pub split_place : (text : List ℕ) (at : ℕ) → IsPlaceIn text at → IsSplitPoint (encode_utf8_all text) at
split_place text at p =
    let two : encode_utf8_all text ≡ encode_utf8_all p.before ++ encode_utf8_all p.behind = ap encode_utf8_all p.whole ∙ encodes-append p.before p.behind in
    subst (λ bs. IsSplitPoint bs at) (sym two)
    (omega (arith, p.place, length-append (encode_utf8_all p.before) (encode_utf8_all p.behind)), λ _ within high. begins (encode_utf8_all p.before) p.behind at p.place within high)
