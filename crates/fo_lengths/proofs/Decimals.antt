-- Lengths: a text begins with one number, a unit has one name, and a length has one value.
use Rattle.std.proofs.Common.{◌≡◌, ◌≢◌, ◌==◌, if◌then◌else◌, ℕ, zero, suc, ◌-◌, ◌*◌, ◌^◌, ◌<◌, ◌≤◌, Bool, true, false, List, [], ◌∷◌, ◌++◌, Option, Some, None, length, get_or, inl, inr, refl, sym, ◌∙◌, ap, subst, arith, append_assoc, unwrap_or}
use Rattle.std.specs.Char.{digit_value}
use Rattle.std.specs.Str.Parse.{AllDigits, digits_value}
use Rattle.std.proofs.Math.Nat.{pow-le-pow_right}
use Rattle.std.proofs.lemmas.Int.Digits.{digits_value-lt}
use Rattle.fo_lengths.specs.DecimalNumber.{Decimal, IsDecimal, sign_text, fraction_text, fraction_digits, decimal_text, millionths}
use Rattle.fo_lengths.specs.LengthValue.{IsMeasure, IsZero, IsLengthValue}
use Rattle.fo_lengths.specs.UnitOfLength.{unit_name, length_in}
use Rattle.fo_lengths.specs.Scan.{BeginsWithNoDigit, BeginsWithout, IsSplitBehindDecimal}
use Rattle.fo_lengths.specs.declared.lengths.Length.{Length}
use Rattle.fo_lengths.specs.declared.unit.LengthUnit.{LengthUnit}
use Rattle.fo_lengths.specs.declared.unit.LengthUnit.TheVariants.{Point, Pica, Inch, Centimetre, Millimetre, Em, Percent}
use Rattle.fo_lengths.proofs.Edges.{HasNoSpace, IsTight, tight, no_space-append, digits_no_space}
use Rattle.fo_lengths.proofs.Runs.{run_same}

-- what is behind the digits before the point
fraction_same : (f g : Option (List ℕ)) (us vs : List ℕ) → AllDigits 10 (unwrap_or f []) → AllDigits 10 (unwrap_or g []) → BeginsWithNoDigit us → BeginsWithNoDigit vs →
    (f ≡ None → BeginsWithout 46 us) → (g ≡ None → BeginsWithout 46 vs) → fraction_text f ++ us ≡ fraction_text g ++ vs → (f ≡ g) × (us ≡ vs)
fraction_same None None us vs p q no_us no_vs f g e = (refl, e)
fraction_same None (Some ds) us vs p q no_us no_vs f g e = absurd (f refl (ds ++ vs) e)
fraction_same (Some ds) None us vs p q no_us no_vs f g e = absurd (g refl (ds ++ us) (sym e))
fraction_same (Some ds) (Some es) us vs p q no_us no_vs f g e =
    let same : (ds ≡ es) × (us ≡ vs) = run_same ds es us vs p q no_us no_vs (cc) in (ap Some same.0, same.1)

no_digit_behind : (f : Option (List ℕ)) (us : List ℕ) → BeginsWithNoDigit us → BeginsWithNoDigit (fraction_text f ++ us)
no_digit_behind None us h = h
no_digit_behind (Some ds) us h = omega arith

-- the digits and the fraction of a number without its sign
unsigned_same : (ds es : List ℕ) (f g : Option (List ℕ)) (us vs : List ℕ) → AllDigits 10 ds → AllDigits 10 es → AllDigits 10 (unwrap_or f []) → AllDigits 10 (unwrap_or g []) →
    BeginsWithNoDigit us → BeginsWithNoDigit vs → (f ≡ None → BeginsWithout 46 us) → (g ≡ None → BeginsWithout 46 vs) →
    (ds ++ fraction_text f) ++ us ≡ (es ++ fraction_text g) ++ vs → (ds ≡ es) × (f ≡ g) × (us ≡ vs)
unsigned_same ds es f g us vs p q fp gq no_us no_vs no_f no_g e =
    let wholes = run_same ds es (fraction_text f ++ us) (fraction_text g ++ vs) p q (no_digit_behind f us no_us) (no_digit_behind g vs no_vs)
    (sym (append_assoc ds (fraction_text f) us) ∙ e ∙ append_assoc es (fraction_text g) vs) in
    let fractions = fraction_same f g us vs fp gq no_us no_vs no_f no_g wholes.1 in
    (wholes.0, fractions.0, fractions.1)

decimal_parts : (m n : Bool) (ds es : List ℕ) (f g : Option (List ℕ)) → m ≡ n → ds ≡ es → f ≡ g →
    ◌≡◌ {A = Decimal} (record { negative = m; whole = ds; fraction = f }) (record { negative = n; whole = es; fraction = g })
decimal_parts m n ds es f g p q r = cc

-- a text begins with one number
split_at : (text : List ℕ) (m n : Bool) (ds es : List ℕ) (f g : Option (List ℕ)) (us vs : List ℕ) →
    IsSplitBehindDecimal text (record { negative = m; whole = ds; fraction = f }) us → IsSplitBehindDecimal text (record { negative = n; whole = es; fraction = g }) vs →
    ◌≡◌ {A = Decimal} (record { negative = m; whole = ds; fraction = f }) (record { negative = n; whole = es; fraction = g }) × (us ≡ vs)
split_at text true true ds es f g us vs p q =
    let same = unsigned_same ds es f g us vs p.whole q.whole p.fraction q.fraction p.longest q.longest p.no_point q.no_point (let e : 45 ∷ ((ds ++ fraction_text f) ++ us) ≡ 45 ∷ ((es ++ fraction_text g) ++ vs) = sym p.written ∙ q.written in cc (e)) in
    (decimal_parts true true ds es f g refl same.0 same.1, same.2)
split_at text true false ds es f g us vs p q = absurd (q.no_sign refl ((ds ++ fraction_text f) ++ us) p.written)
split_at text false true ds es f g us vs p q = absurd (p.no_sign refl ((es ++ fraction_text g) ++ vs) q.written)
split_at text false false ds es f g us vs p q =
    let same = unsigned_same ds es f g us vs p.whole q.whole p.fraction q.fraction p.longest q.longest p.no_point q.no_point (sym p.written ∙ q.written) in
    (decimal_parts false false ds es f g refl same.0 same.1, same.2)

pub decimal_same : (text : List ℕ) (d e : Decimal) (us vs : List ℕ) → IsSplitBehindDecimal text d us → IsSplitBehindDecimal text e vs → (d ≡ e) × (us ≡ vs)
decimal_same text d e us vs p q = split_at text d.negative e.negative d.whole e.whole d.fraction e.fraction us vs p q

-- a unit's name begins with no digit, point or minus sign
name_no_digit : (u : LengthUnit) → BeginsWithNoDigit (unit_name u)
name_no_digit Point = omega arith
name_no_digit Pica = omega arith
name_no_digit Inch = omega arith
name_no_digit Centimetre = omega arith
name_no_digit Millimetre = omega arith
name_no_digit Em = omega arith
name_no_digit Percent = omega arith

name_begins : (u : LengthUnit) (c : ℕ) → 38 ≤ c → c ≤ 57 → BeginsWithout c (unit_name u)
name_begins Point c lo hi rest e = omega (arith, ap (λ t. get_or t 0 0) e)
name_begins Pica c lo hi rest e = omega (arith, ap (λ t. get_or t 0 0) e)
name_begins Inch c lo hi rest e = omega (arith, ap (λ t. get_or t 0 0) e)
name_begins Centimetre c lo hi rest e = omega (arith, ap (λ t. get_or t 0 0) e)
name_begins Millimetre c lo hi rest e = omega (arith, ap (λ t. get_or t 0 0) e)
name_begins Em c lo hi rest e = omega (arith, ap (λ t. get_or t 0 0) e)
name_begins Percent c lo hi rest e = omega (arith, ap (λ t. get_or t 0 0) e)

-- a number without a minus sign begins with none, where what is behind it begins with none
no_sign_text : (n : Bool) (ds : List ℕ) (f : Option (List ℕ)) (us : List ℕ) → AllDigits 10 ds → BeginsWithout 45 us → n ≡ false → BeginsWithout 45 ((sign_text n ++ (ds ++ fraction_text f)) ++ us)
no_sign_text true ds f us all behind n rest e = absurd (cc)
no_sign_text false (d ∷ ds) f us all behind n rest e =
    let minus : d ≡ 45 = ap (λ t. get_or t 0 0) e in
    let digit : digit_value 45 < 10 = (let P : ℕ → Type 0 = λ k. digit_value k < 10 in subst P minus all.0) in omega arith
no_sign_text false [] None us all behind n rest e = behind rest e
no_sign_text false [] (Some ds) us all behind n rest e = omega (arith, ap (λ t. get_or t 0 0) e)

-- a number and what is behind it are a number and the rest
pub decimal_split : (text : List ℕ) (d : Decimal) (us : List ℕ) → IsDecimal d → BeginsWithout 45 us → BeginsWithout 46 us → BeginsWithNoDigit us → text ≡ decimal_text d ++ us → IsSplitBehindDecimal text d us
decimal_split text d us is no_sign no_point no_digit e = record {
  written = e;
  whole = is.whole;
  fraction = is.fraction;
  no_sign = λ plain rest f. no_sign_text d.negative d.whole d.fraction us is.whole no_sign plain rest (sym e ∙ f);
  no_point = λ _. no_point;
  longest = no_digit;
}

pub measure_split : (value : List ℕ) (length : Length) → (m : IsMeasure value length) → IsSplitBehindDecimal value m.number (unit_name m.unit)
measure_split value length m =
    decimal_split value m.number (unit_name m.unit) m.decimal
    (name_begins m.unit 45 (omega arith) (omega arith)) (name_begins m.unit 46 (omega arith) (omega arith)) (name_no_digit m.unit) m.written

-- the unit of a name
unit_from : List ℕ → LengthUnit
unit_from name = if get_or name 0 0 == 37 then Percent else (if get_or name 0 0 == 105 then Inch else (if get_or name 0 0 == 99 then Centimetre else
    (if get_or name 0 0 == 109 then Millimetre else (if get_or name 0 0 == 101 then Em else (if get_or name 1 0 == 116 then Point else Pica)))))

unit_from_name : (u : LengthUnit) → unit_from (unit_name u) ≡ u
unfolding unit_from
unit_from_name Point = refl
unit_from_name Pica = refl
unit_from_name Inch = refl
unit_from_name Centimetre = refl
unit_from_name Millimetre = refl
unit_from_name Em = refl
unit_from_name Percent = refl

pub unit_one : (u v : LengthUnit) → unit_name u ≡ unit_name v → u ≡ v
unit_one u v e = sym (unit_from_name u) ∙ ap unit_from e ∙ unit_from_name v

-- what so many digits behind the point come to is below one
scaled : (k n : ℕ) → k ≤ 6 → n < 10 ^ k → n * 10 ^ (6 - k) < 10 ^ 6
scaled zero n le lt = omega arith
scaled (suc zero) n le lt = omega arith
scaled (suc (suc zero)) n le lt = omega arith
scaled (suc (suc (suc zero))) n le lt = omega arith
scaled (suc (suc (suc (suc zero)))) n le lt = omega arith
scaled (suc (suc (suc (suc (suc zero))))) n le lt = omega arith
scaled (suc (suc (suc (suc (suc (suc zero)))))) n le lt = omega arith
scaled (suc (suc (suc (suc (suc (suc (suc k))))))) n le lt = absurd (omega arith)

pub millionths_small : (d : Decimal) → IsDecimal d → millionths d < 10 ^ 12
millionths_small d is =
    let wholes : digits_value 10 d.whole < 10 ^ 6 = omega (arith, digits_value-lt 10 d.whole is.whole, pow-le-pow_right {n = 10} (omega arith) is.whole_few) in
    let parts : digits_value 10 (fraction_digits d) * 10 ^ (6 - length (fraction_digits d)) < 10 ^ 6
    = scaled (length (fraction_digits d)) (digits_value 10 (fraction_digits d)) is.fraction_few (digits_value-lt 10 (fraction_digits d) is.fraction) in
    omega arith

-- a unit's name has no space
name_no_space : (u : LengthUnit) → HasNoSpace (unit_name u)
name_no_space Point = (λ e. omega (arith, e), (λ e. omega (arith, e), tt))
name_no_space Pica = (λ e. omega (arith, e), (λ e. omega (arith, e), tt))
name_no_space Inch = (λ e. omega (arith, e), (λ e. omega (arith, e), tt))
name_no_space Centimetre = (λ e. omega (arith, e), (λ e. omega (arith, e), tt))
name_no_space Millimetre = (λ e. omega (arith, e), (λ e. omega (arith, e), tt))
name_no_space Em = (λ e. omega (arith, e), (λ e. omega (arith, e), tt))
name_no_space Percent = (λ e. omega (arith, e), tt)

sign_no_space : (n : Bool) → HasNoSpace (sign_text n)
sign_no_space true = (λ e. omega (arith, e), tt)
sign_no_space false = tt

fraction_no_space : (f : Option (List ℕ)) → AllDigits 10 (unwrap_or f []) → HasNoSpace (fraction_text f)
fraction_no_space None all = tt
fraction_no_space (Some ds) all = (λ e. omega (arith, e), digits_no_space 10 (omega arith) ds all)

pub decimal_no_space : (d : Decimal) → IsDecimal d → HasNoSpace (decimal_text d)
decimal_no_space d is =
    no_space-append (sign_text d.negative) (d.whole ++ fraction_text d.fraction) (sign_no_space d.negative)
    (no_space-append d.whole (fraction_text d.fraction) (digits_no_space 10 (omega arith) d.whole is.whole) (fraction_no_space d.fraction is.fraction))

pub length_tight : (value : List ℕ) (length : Length) → IsLengthValue value length → IsTight value
length_tight value length (inl m) =
    let P : List ℕ → Type 0 = HasNoSpace in
    tight value (subst P (sym m.written) (no_space-append (decimal_text m.number) (unit_name m.unit) (decimal_no_space m.number m.decimal) (name_no_space m.unit)))
length_tight value length (inr z) = let P : List ℕ → Type 0 = HasNoSpace in tight value (subst P (sym z.written) (λ e. omega (arith, e), tt))

-- 0 alone has no unit behind it
zero_split : IsSplitBehindDecimal (48 ∷ []) (record { negative = false; whole = 48 ∷ []; fraction = None }) []
zero_split = record {
  written = refl;
  whole = (omega arith, tt);
  fraction = tt;
  no_sign = λ _ rest e. omega (arith, ap (λ t. get_or t 0 0) e);
  no_point = λ _ rest e. absurd (omega (arith, ap (length {A = ℕ}) e));
  longest = tt;
}

name_some : (u : LengthUnit) → unit_name u ≢ []
name_some Point e = absurd (omega (arith, ap (length {A = ℕ}) e))
name_some Pica e = absurd (omega (arith, ap (length {A = ℕ}) e))
name_some Inch e = absurd (omega (arith, ap (length {A = ℕ}) e))
name_some Centimetre e = absurd (omega (arith, ap (length {A = ℕ}) e))
name_some Millimetre e = absurd (omega (arith, ap (length {A = ℕ}) e))
name_some Em e = absurd (omega (arith, ap (length {A = ℕ}) e))
name_some Percent e = absurd (omega (arith, ap (length {A = ℕ}) e))

zero_apart : (value : List ℕ) (a b : Length) → IsMeasure value a → IsZero value b → ⊥
zero_apart value a b m z =
    let P : List ℕ → Type 0 = λ v. IsSplitBehindDecimal v m.number (unit_name m.unit) in
    let same = decimal_same (48 ∷ []) m.number _ (unit_name m.unit) [] (subst P z.written (measure_split value a m)) zero_split in
    name_some m.unit same.1

-- the amounts of two readings of one text
pub amounts_same : (u v : LengthUnit) (d e : Decimal) → u ≡ v → d ≡ e → length_in u d.negative (millionths d) ≡ length_in v e.negative (millionths e)
amounts_same u v d e p q = ap (λ w. length_in w d.negative (millionths d)) p ∙ ap (λ (f : Decimal). length_in v f.negative (millionths f)) q

pub length_one : (value : List ℕ) (a b : Length) → IsLengthValue value a → IsLengthValue value b → a ≡ b
length_one value a b (inl m) (inl n) =
    let same = decimal_same value m.number n.number (unit_name m.unit) (unit_name n.unit) (measure_split value a m) (measure_split value b n) in
    m.amount ∙ amounts_same m.unit n.unit m.number n.number (unit_one m.unit n.unit same.1) same.0 ∙ sym n.amount
length_one value a b (inl m) (inr z) = absurd (zero_apart value a b m z)
length_one value a b (inr z) (inl n) = absurd (zero_apart value b a n z)
length_one value a b (inr y) (inr z) = y.amount ∙ sym z.amount
