-- What `trim_matches` says of a space, by bytes.
use Rattle.std.proofs.Common.{◌≡◌, ℕ, ◌+◌, ◌-◌, ◌≤◌, List, [], ◌∷◌, ◌++◌, length, drop, take, get_or, Some, None, inl, inr, refl, sym, ◌∙◌, ap, arith, append_assoc, append-nil, length-append}
use Rattle.std.proofs.lemmas.List.{take-append-drop, drop-append-le, drop_all, take-take, take_all, get_or-take}
use Rattle.std.proofs.lemmas.Bool.{cases_lt}
use Rattle.std.proofs.Math.Seq.{get_or-append_seam}
use Rattle.std.specs.Str.Pattern.{HasCharAt, FindsCharPrefix, FindsCharSuffix, CutsPrefixes, CutsSuffixes, IsFullyTrimmed, IsTrimMatches}
use Rattle.std.proofs.lemmas.Str.{inside_one, length-encode}
use Rattle.std.proofs.lemmas.Str.Pattern.{drop_at_char}
use lib.Utf8
use Rattle.fo_lengths.specs.Padding.{AreSpaces, IsTrimmed}
use Rattle.fo_lengths.specs.Scan.{BeginsWithout}
use Rattle.fo_lengths.proofs.Edges.{EndsWithoutSpace, spaces-append}

front_cut : (ns s m : List ℕ) → CutsPrefixes (FindsCharPrefix 32) s ns m → (before : List ℕ) × AreSpaces before × (s ≡ before ++ m)
front_cut [] s m e = ([], tt, sym e)
front_cut (n ∷ ns) s m (m', cuts, at, rest) =
    let (before, spaces, whole) = front_cut ns s m' cuts in
    let step : m' ≡ 32 ∷ m = drop_at_char 32 m' 0 n at (omega arith) ∙ ap (λ t. 32 ∷ t) (sym rest) in
    (before ++ (32 ∷ []), spaces-append before (32 ∷ []) spaces (refl, tt), whole ∙ ap (λ t. before ++ t) step ∙ sym (append_assoc before (32 ∷ []) m))

back_cut : (ns s r : List ℕ) → CutsSuffixes (FindsCharSuffix 32) s ns r → (after : List ℕ) × AreSpaces after × (s ≡ r ++ after)
back_cut [] s r e = ([], tt, sym e ∙ sym (append-nil r))
back_cut (n ∷ ns) s r (m, cuts, at, front) =
    let (after, spaces, whole) = back_cut ns s m cuts in
    let last : drop (length m - n) m ≡ 32 ∷ drop (length m) m = drop_at_char 32 m (length m - n) (length m) (at.1) (omega arith) in
    let step : m ≡ r ++ (32 ∷ []) = sym (take-append-drop (length m - n) m) ∙ (rw (← front, last, drop_all (length m) m (omega arith)) refl) in
    (32 ∷ after, (refl, spaces), whole ∙ ap (λ t. t ++ after) step ∙ append_assoc r (32 ∷ []) after)

front_stop : (m : List ℕ) → IsFullyTrimmed (FindsCharPrefix 32) m → BeginsWithout 32 m
unfolding lib.Utf8.encode
front_stop m (None, none, _) rest e = none rest e
front_stop m (Some n, at, zero) rest e = omega (arith, at.ends)

back_stop : (m : List ℕ) → IsFullyTrimmed (FindsCharSuffix 32) m → EndsWithoutSpace m
unfolding lib.Utf8.encode
back_stop m (None, none, _) front e = none front e
back_stop m (Some n, at, zero) front e = omega (arith, at.0)

-- the front of a text ends where the rest after its first character ends
tail_kept : (m value after : List ℕ) (w : ℕ) → value ≡ take (length value) m → w ≤ length value → drop w m ≡ drop w value ++ after → m ≡ value ++ after
tail_kept m value after w kept le tail =
    let front : take w m ≡ take w value = sym (take-take w (length value) m le) ∙ ap (take w) (sym kept) in
    sym (take-append-drop w m) ∙ rw (front, tail) (sym (append_assoc (take w value) (drop w value) after) ∙ ap (λ t. t ++ after) (take-append-drop w value))

-- a character that ends in the byte of a space is a space
last_space : (m value : List ℕ) (c w : ℕ) → HasCharAt c m 0 w → value ≡ take (length value) m → w ≡ length value → (front : List ℕ) → value ≡ front ++ (32 ∷ []) → c ≡ 32
last_space m value c w at kept all front e =
    let long : length value ≡ length front + 1 = omega (arith, ap length e, length-append front (32 ∷ [])) in
    let byte : get_or value (length front) 0 ≡ 32 = ap (λ t. get_or t (length front) 0) e ∙ get_or-append_seam front 32 [] 0 in
    let same : get_or m (length front) 0 ≡ get_or value (length front) 0 = sym (ap (λ t. get_or t (length front) 0) kept ∙ get_or-take (length value) m (length front) 0 (omega arith)) in
    inside_one c (drop w m) m (length front) at.split (omega (arith, at.ends, length-encode c)) (omega arith) ∙ (same ∙ byte)

value_end : (m value : List ℕ) (c w : ℕ) → BeginsWithout 32 m → HasCharAt c m 0 w → value ≡ take (length value) m → w ≤ length value → EndsWithoutSpace (drop w value) → EndsWithoutSpace value
value_end m value c w start at kept le end front e =
    elim (cases_lt w (length value)) [
      | inl below ↦ end (drop w front) (ap (drop w) e ∙ drop-append-le w front (32 ∷ []) (omega (arith, ap length e, length-append front (32 ∷ []))))
      | inr above ↦
          let space : c ≡ 32 = last_space m value c w at kept (omega arith) front e in
          start (drop w m) (drop_at_char c m 0 w at (omega arith) ∙ ap (λ b. b ∷ drop w m) space)
    ]

pub trims : (text value : List ℕ) → IsTrimMatches (FindsCharPrefix 32) (FindsCharSuffix 32) text value → IsTrimmed text value
trims text value ([], ((ns, cuts), stop), kept, tail) =
    let (before, spaces_before, front) = front_cut ns text [] cuts in
    let empty : value ≡ [] = kept ∙ take_all (length value) [] (omega arith) in
    record {
      padded = record { before = before; after = []; spaces_before = spaces_before; spaces_after = tt; whole = front ∙ ap (λ t. before ++ (t ++ [])) (sym empty) };
      start = λ rest e. absurd (omega (arith, ap length (sym empty ∙ e)));
      end = λ front' e. absurd (omega (arith, ap length (sym empty ∙ e), length-append front' (32 ∷ [])));
    }
trims text value (b ∷ m, ((ns, cuts), stop), kept, tail) =
    let (c, w, at, le, (ends, shut)) = tail (omega arith) in
    let (before, spaces_before, front) = front_cut ns text (b ∷ m) cuts in
    let (after, spaces_after, back) = back_cut ends.0 (drop w (b ∷ m)) (drop w value) ends.1 in
    let whole : b ∷ m ≡ value ++ after = tail_kept (b ∷ m) value after w kept le back in
    record {
      padded = record { before = before; after = after; spaces_before = spaces_before; spaces_after = spaces_after; whole = front ∙ ap (λ t. before ++ t) whole };
      start = λ rest e. front_stop (b ∷ m) stop (rest ++ after) (whole ∙ ap (λ t. t ++ after) e);
      end = value_end (b ∷ m) value c w (front_stop (b ∷ m) stop) at kept le (back_stop (drop w value) shut);
    }
