-- The forms of a colour: which one a text has, and its one value.
use Rattle.std.proofs.Common.{◌≡◌, ◌≢◌, ℕ, ◌+◌, ◌*◌, ◌<◌, ◌≤◌, Bool, true, not, ◌&&◌, nat_eq, List, [], ◌∷◌, ◌++◌, Some, length, get_or, inl, inr, refl, sym, ◌∙◌, ap, subst, arith}
use Rattle.std.specs.Char.{digit_value}
use Rattle.std.specs.List.{AllByRecursion}
use Rattle.std.specs.Map.{lookup}
use Rattle.std.specs.Str.{bytes_eq}
use Rattle.std.specs.Str.Parse.{digits_value}
use Rattle.std.proofs.lemmas.Bool.{cases_Bool, cond-false, and_parts, eqb-false, not-true}
use Rattle.std.proofs.lemmas.Option.{same_Some}
use Rattle.std.proofs.lemmas.Slice.Eq.{bytes_eq-Decides}
use Rattle.fo_lengths.specs.ColorValue.{IsHexDigits, IsChannel, IsRgb, color_names, color_named, IsColorValue}
use Rattle.fo_lengths.specs.Scan.{IsSplitBehindChannel}
use Rattle.fo_lengths.proofs.Edges.{HasNoSpace, IsTight, tight, no_space-append, digits_no_space}
use Rattle.fo_lengths.proofs.Runs.{run_same}

-- the three parts of rgb( ), each behind the one before
pub red_split : (rest : List ℕ) (color : ℕ) → (is : IsRgb (114 ∷ 103 ∷ 98 ∷ 40 ∷ rest) color) → IsSplitBehindChannel rest 44 is.red (is.green_digits ++ (44 ∷ (is.blue_digits ++ (41 ∷ []))))
red_split rest color is = record { digits = is.red_digits; written = (let whole : rest ≡ is.red_digits ++ (44 ∷ (is.green_digits ++ (44 ∷ (is.blue_digits ++ (41 ∷ []))))) = cc (is.written) in whole); is_channel = is.is_red }

pub green_split : (value rest : List ℕ) (color : ℕ) → (is : IsRgb value color) → rest ≡ is.green_digits ++ (44 ∷ (is.blue_digits ++ (41 ∷ []))) → IsSplitBehindChannel rest 44 is.green (is.blue_digits ++ (41 ∷ []))
green_split value rest color is e = record { digits = is.green_digits; written = e; is_channel = is.is_green }

pub blue_split : (value rest : List ℕ) (color : ℕ) → (is : IsRgb value color) → rest ≡ is.blue_digits ++ (41 ∷ []) → IsSplitBehindChannel rest 41 is.blue []
blue_split value rest color is e = record { digits = is.blue_digits; written = e; is_channel = is.is_blue }

-- rgb( ) from its three parts
pub rgb_whole : (rest rest1 rest2 : List ℕ) (red green blue : ℕ) → IsSplitBehindChannel rest 44 red rest1 → IsSplitBehindChannel rest1 44 green rest2 → IsSplitBehindChannel rest2 41 blue [] →
    IsRgb (114 ∷ 103 ∷ 98 ∷ 40 ∷ rest) (red * 0x1_0000 + green * 0x100 + blue)
rgb_whole rest rest1 rest2 red green blue r g b = record {
  red_digits = r.digits;
  green_digits = g.digits;
  blue_digits = b.digits;
  written = ap (λ t. 114 ∷ 103 ∷ 98 ∷ 40 ∷ t) (r.written ∙ ap (λ t. r.digits ++ (44 ∷ t)) (g.written ∙ ap (λ t. g.digits ++ (44 ∷ t)) b.written));
  red = red;
  green = green;
  blue = blue;
  is_red = r.is_channel;
  is_green = g.is_channel;
  is_blue = b.is_channel;
  mixed = refl;
}

channel_one : (ds es : List ℕ) (m n : ℕ) → IsChannel ds m → IsChannel es n → ds ≡ es → m ≡ n
channel_one ds es m n p q e = p.number.value ∙ ap (digits_value 10) e ∙ sym q.number.value

-- a part ends in one place, and has one value
pub channel_same : (text : List ℕ) (end : ℕ) → 10 ≤ digit_value end → (m n : ℕ) (rest rest' : List ℕ) → IsSplitBehindChannel text end m rest → IsSplitBehindChannel text end n rest' → (m ≡ n) × (rest ≡ rest')
channel_same text end stops m n rest rest' p q =
    let same : (p.digits ≡ q.digits) × (end ∷ rest ≡ end ∷ rest')
    = run_same p.digits q.digits (end ∷ rest) (end ∷ rest') p.is_channel.number.decimal q.is_channel.number.decimal stops stops (sym p.written ∙ q.written) in
    (channel_one p.digits q.digits m n p.is_channel q.is_channel same.0, (let rests : rest ≡ rest' = cc (same.1) in rests))

-- a colour that begins with # is hexadecimal
pub hex_alone : (digits : List ℕ) (color : ℕ) → IsColorValue (35 ∷ digits) color → IsHexDigits digits color
hex_alone digits color (inl hex) = (let same : hex.digits ≡ digits = cc (hex.written) in subst (λ d. IsHexDigits d color) same hex.hexadecimal)
hex_alone digits color (inr (inl rgb)) = absurd (let apart : 35 ≡ 114 = ap (λ t. get_or t 0 0) rgb.written in omega arith)
hex_alone digits color (inr (inr named)) = absurd (cc)

-- one that begins with rgb( has three parts
pub rgb_alone : (rest : List ℕ) (color : ℕ) → IsColorValue (114 ∷ 103 ∷ 98 ∷ 40 ∷ rest) color → IsRgb (114 ∷ 103 ∷ 98 ∷ 40 ∷ rest) color
rgb_alone rest color (inl hex) = absurd (let apart : 114 ≡ 35 = ap (λ t. get_or t 0 0) hex.written in omega arith)
rgb_alone rest color (inr (inl rgb)) = rgb
rgb_alone rest color (inr (inr named)) = absurd (cc)

-- any other is a name
pub name_alone : (value : List ℕ) (color : ℕ) → ((rest : List ℕ) → value ≢ 35 ∷ rest) → ((rest : List ℕ) → value ≢ 114 ∷ 103 ∷ 98 ∷ 40 ∷ rest) → IsColorValue value color → color_named value ≡ Some color
name_alone value color no_hex no_rgb (inl hex) = absurd (no_hex hex.digits hex.written)
name_alone value color no_hex no_rgb (inr (inl rgb)) = absurd (no_rgb (rgb.red_digits ++ (44 ∷ (rgb.green_digits ++ (44 ∷ (rgb.blue_digits ++ (41 ∷ [])))))) rgb.written)
name_alone value color no_hex no_rgb (inr (inr named)) = named

-- what holds of each name holds of the name that is found
named_holds : (P : List ℕ → Type 0) (names : List (List ℕ × ℕ)) → AllByRecursion (λ entry. P entry.0) names → (name : List ℕ) (color : ℕ) → lookup (bytes_eq name) names ≡ Some color → P name
named_holds P [] all name color found = absurd (cc)
named_holds P (entry ∷ names) all name color found =
    elim (cases_Bool (bytes_eq name entry.0)) [
      | inl same ↦ subst P (sym ((bytes_eq-Decides name entry.0).0 same)) all.0
      | inr other ↦ named_holds P names all.1 name color (sym (cond-false (bytes_eq name entry.0) (Some entry.1) (lookup (bytes_eq name) names) other) ∙ found)
    ]

-- the same as a test
abbrev spaceless : List ℕ → Bool
spaceless [] = true
spaceless (b ∷ bs) = not (nat_eq b 32) && spaceless bs

abbrev spaceless_names : List (List ℕ × ℕ) → Bool
spaceless_names [] = true
spaceless_names (entry ∷ names) = spaceless entry.0 && spaceless_names names

spaceless_holds : (xs : List ℕ) → spaceless xs ≡ true → HasNoSpace xs
spaceless_holds [] t = tt
spaceless_holds (b ∷ bs) t =
    let parts = and_parts (not (nat_eq b 32)) (spaceless bs) t in
    (eqb-false b 32 (not-true (nat_eq b 32) parts.0), spaceless_holds bs parts.1)

all_spaceless : (names : List (List ℕ × ℕ)) → spaceless_names names ≡ true → AllByRecursion (λ entry. HasNoSpace entry.0) names
all_spaceless [] t = tt
all_spaceless (entry ∷ names) t =
    let parts = and_parts (spaceless entry.0) (spaceless_names names) t in
    (spaceless_holds entry.0 parts.0, all_spaceless names parts.1)

apart : (c : ℕ) → 32 < c → c ≢ 32
apart c lt e = omega arith

names_no_space : AllByRecursion (λ entry. HasNoSpace entry.0) color_names
names_no_space = all_spaceless color_names refl

six_no_space : (digits : List ℕ) (color : ℕ) → IsHexDigits digits color → HasNoSpace digits
six_no_space digits color (inl six) = digits_no_space 16 (omega arith) digits six.hexadecimal
six_no_space digits color (inr (r, g, b, e, six)) =
    let all : HasNoSpace (r ∷ r ∷ g ∷ g ∷ b ∷ b ∷ []) = digits_no_space 16 (omega arith) (r ∷ r ∷ g ∷ g ∷ b ∷ b ∷ []) six.hexadecimal in
    let P : List ℕ → Type 0 = HasNoSpace in
    subst P (sym e) (all.0, (all.1.1.0, (all.1.1.1.1.0, tt)))

channel_no_space : (digits : List ℕ) (n : ℕ) → IsChannel digits n → HasNoSpace digits
channel_no_space digits n is = digits_no_space 10 (omega arith) digits is.number.decimal

color_no_space : (value : List ℕ) (color : ℕ) → IsColorValue value color → HasNoSpace value
color_no_space value color (inl hex) = let P : List ℕ → Type 0 = HasNoSpace in subst P (sym hex.written) (apart 35 (omega arith), six_no_space hex.digits color hex.hexadecimal)
color_no_space value color (inr (inl rgb)) =
    let P : List ℕ → Type 0 = HasNoSpace in
    let blue : HasNoSpace (rgb.blue_digits ++ (41 ∷ [])) = no_space-append rgb.blue_digits (41 ∷ []) (channel_no_space rgb.blue_digits rgb.blue rgb.is_blue) (apart 41 (omega arith), tt) in
    let green : HasNoSpace (rgb.green_digits ++ (44 ∷ (rgb.blue_digits ++ (41 ∷ [])))) = no_space-append rgb.green_digits (44 ∷ (rgb.blue_digits ++ (41 ∷ []))) (channel_no_space rgb.green_digits rgb.green rgb.is_green) (apart 44 (omega arith), blue) in
    let red : HasNoSpace (rgb.red_digits ++ (44 ∷ (rgb.green_digits ++ (44 ∷ (rgb.blue_digits ++ (41 ∷ [])))))) = no_space-append rgb.red_digits (44 ∷ (rgb.green_digits ++ (44 ∷ (rgb.blue_digits ++ (41 ∷ []))))) (channel_no_space rgb.red_digits rgb.red rgb.is_red) (apart 44 (omega arith), green) in
    subst P (sym rgb.written) (apart 114 (omega arith), (apart 103 (omega arith), (apart 98 (omega arith), (apart 40 (omega arith), red))))
color_no_space value color (inr (inr named)) = named_holds HasNoSpace color_names names_no_space value color named

pub color_tight : (value : List ℕ) (color : ℕ) → IsColorValue value color → IsTight value
color_tight value color is = tight value (color_no_space value color is)

-- the value of three digits, each of them twice
abbrev doubled_value : List ℕ → ℕ
doubled_value ds = digits_value 16 (get_or ds 0 0 ∷ get_or ds 0 0 ∷ get_or ds 1 0 ∷ get_or ds 1 0 ∷ get_or ds 2 0 ∷ get_or ds 2 0 ∷ [])

hex_one : (digits : List ℕ) (a b : ℕ) → IsHexDigits digits a → IsHexDigits digits b → a ≡ b
hex_one digits a b (inl p) (inl q) = p.value ∙ sym q.value
hex_one digits a b (inl p) (inr (r', g', b', f, q)) = absurd (omega (arith, p.six, ap length f))
hex_one digits a b (inr (r, g, b1, e, p)) (inl q) = absurd (omega (arith, q.six, ap length e))
hex_one digits a b (inr (r, g, b1, e, p)) (inr (r', g', b', f, q)) =
    let same : r ∷ g ∷ b1 ∷ [] ≡ r' ∷ g' ∷ b' ∷ [] = sym e ∙ f in
    p.value ∙ ap doubled_value same ∙ sym q.value

rgb_one_at : (rest : List ℕ) (a b : ℕ) → IsRgb (114 ∷ 103 ∷ 98 ∷ 40 ∷ rest) a → IsRgb (114 ∷ 103 ∷ 98 ∷ 40 ∷ rest) b → a ≡ b
rgb_one_at rest a b p q =
    let behind_red : List ℕ = p.green_digits ++ (44 ∷ (p.blue_digits ++ (41 ∷ []))) in
    let behind_green : List ℕ = p.blue_digits ++ (41 ∷ []) in
    let reds = channel_same rest 44 (omega arith) p.red q.red _ _ (red_split rest a p) (red_split rest b q) in
    let greens = channel_same behind_red 44 (omega arith) p.green q.green _ _ (green_split _ behind_red a p refl) (green_split _ behind_red b q reds.1) in
    let blues = channel_same behind_green 41 (omega arith) p.blue q.blue _ _ (blue_split _ behind_green a p refl) (blue_split _ behind_green b q greens.1) in
    omega (arith, p.mixed, q.mixed, reds.0, greens.0, blues.0)

rgb_one : (value : List ℕ) (a b : ℕ) → IsRgb value a → IsRgb value b → a ≡ b
rgb_one value a b p q =
    subst (λ v. IsRgb v a → IsRgb v b → a ≡ b) (sym p.written) (rgb_one_at (p.red_digits ++ (44 ∷ (p.green_digits ++ (44 ∷ (p.blue_digits ++ (41 ∷ [])))))) a b) p q

pub color_one : (value : List ℕ) (a b : ℕ) → IsColorValue value a → IsColorValue value b → a ≡ b
color_one value a b (inl hex) q = hex_one hex.digits a b hex.hexadecimal (hex_alone hex.digits b (subst (λ v. IsColorValue v b) hex.written q))
color_one value a b (inr (inl rgb)) q =
    let rest : List ℕ = rgb.red_digits ++ (44 ∷ (rgb.green_digits ++ (44 ∷ (rgb.blue_digits ++ (41 ∷ []))))) in
    rgb_one value a b rgb (subst (λ v. IsRgb v b) (sym rgb.written) (rgb_alone rest b (subst (λ v. IsColorValue v b) rgb.written q)))
color_one value a b (inr (inr named)) (inl hex) = absurd (let none : color_named (35 ∷ hex.digits) ≡ Some a = subst (λ v. color_named v ≡ Some a) hex.written named in cc)
color_one value a b (inr (inr named)) (inr (inl rgb)) =
    let rest : List ℕ = rgb.red_digits ++ (44 ∷ (rgb.green_digits ++ (44 ∷ (rgb.blue_digits ++ (41 ∷ []))))) in
    absurd (let none : color_named (114 ∷ 103 ∷ 98 ∷ 40 ∷ rest) ≡ Some a = subst (λ v. color_named v ≡ Some a) rgb.written named in cc)
color_one value a b (inr (inr named)) (inr (inr other)) = same_Some a b (sym named ∙ other)
