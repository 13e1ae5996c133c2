-- What text is a number: `text_number` says what `Spells` says.
use Rattle.std.proofs.Common.{◌≡◌, ℕ, zero, suc, ◌<◌, Bool, true, false, IsTrue, List, [], ◌∷◌, ◌++◌, reverse, length, ℤ, refl, sym, ◌∙◌, ap, subst, arith, inl, inr, length-append}
use Rattle.std.specs.Char.{digit_value}
use Rattle.std.specs.Int.{IsInRange}
use Rattle.std.specs.List.{AllByRecursion}
use Rattle.std.specs.Str.{chars, IsUtf8, IsAscii}
use Rattle.std.specs.Str.Parse.{AllDigits, digits_value}
use Rattle.std.proofs.lemmas.Bool.{cases_Bool, cases_eq, cond-true, cond-false}
use Rattle.std.proofs.lemmas.Bool.Decides.{nat_tests}
use Rattle.std.proofs.lemmas.List.{reverse-append, reverse-reverse}
use Rattle.std.proofs.lemmas.Fmt.{IsAscii-from_digits}
use Rattle.std.proofs.lemmas.Str.{IsAscii-append, chars-IsAscii, encodes-IsAscii, encodes-chars}
use Rattle.std.proofs.lemmas.Str.Parse.{digit_from_value}
use Rattle.xpath_values.specs.declared.number.Num.{Num}
use Rattle.xpath_values.specs.declared.number.Num.TheVariants.{NaN, Whole}
use Rattle.serna_kinds.specs.Blanks.{is_space}
use Rattle.xpath_values.specs.Numerals.{AreSpaces, sign_text, signed, IsNumeral, Spells, without_spaces, trimmed, numeral_number, text_number}
use Rattle.xpath_values.proofs.Digits.{AreDigits, digits_number_some, digits_number_whole, numeral_minus, numeral_plain}

-- what holds of each element of two lists holds of both in a row, and of a list backwards
all_append : (P : ℕ → Type 0) (xs ys : List ℕ) → AllByRecursion P xs → AllByRecursion P ys → AllByRecursion P (xs ++ ys)
all_append P [] ys p q = q
all_append P (x ∷ xs) ys p q = (p.0, all_append P xs ys p.1 q)

all_reverse : (P : ℕ → Type 0) (xs : List ℕ) → AllByRecursion P xs → AllByRecursion P (reverse xs)
all_reverse P [] p = tt
all_reverse P (x ∷ xs) p = subst (AllByRecursion P) (sym (reverse-append (x ∷ []) xs)) (all_append P (reverse xs) (x ∷ []) (all_reverse P xs p.1) (p.0, tt))

-- white space at the front
spaces_front : (text : List ℕ) → (before : List ℕ) × AreSpaces before × (text ≡ before ++ without_spaces text)
spaces_front [] = ([], tt, refl)
spaces_front (c ∷ cs) =
    elim (cases_Bool (is_space c)) [
      | inl e ↦ (
          let (before, spaces, whole) = spaces_front cs in
          (c ∷ before, (e, spaces), ap (λ t. c ∷ t) (whole ∙ ap (λ t. before ++ t) (sym (cond-true (is_space c) (without_spaces cs) (c ∷ cs) e))))
          )
      | inr e ↦ ([], tt, sym (cond-false (is_space c) (without_spaces cs) (c ∷ cs) e))
    ]

skipped : (before rest : List ℕ) → AreSpaces before → without_spaces (before ++ rest) ≡ without_spaces rest
skipped [] rest s = refl
skipped (c ∷ before) rest s = cond-true (is_space c) (without_spaces (before ++ rest)) (c ∷ (before ++ rest)) s.0 ∙ skipped before rest s.1

-- not white space
abbrev IsInk : ℕ → Type 0
IsInk c = is_space c ≡ false

stopped : (xs rest : List ℕ) → AllByRecursion IsInk xs → 0 < length xs → without_spaces (xs ++ rest) ≡ xs ++ rest
stopped [] rest t some = absurd (omega arith)
stopped (c ∷ xs) rest t some = cond-false (is_space c) (without_spaces (xs ++ rest)) (c ∷ (xs ++ rest)) t.0

stopped_all : (xs : List ℕ) → AllByRecursion IsInk xs → without_spaces xs ≡ xs
stopped_all [] t = refl
stopped_all (c ∷ xs) t = cond-false (is_space c) (without_spaces xs) (c ∷ xs) t.0

-- a text is what is left of it between white space
pub trimmed_parts : (text : List ℕ) → (before : List ℕ) × (after : List ℕ) × AreSpaces before × AreSpaces after × (text ≡ before ++ (trimmed text ++ after))
trimmed_parts text =
    let (before, spaces_before, whole) = spaces_front text in
    let rest : List ℕ = without_spaces text in
    let (back, spaces_back, whole_back) = spaces_front (reverse rest) in (
      before,
      reverse back,
      spaces_before,
      all_reverse (λ c. IsTrue (is_space c)) back spaces_back,
      whole ∙ ap (λ t. before ++ t) (sym (reverse-reverse rest) ∙ ap reverse whole_back ∙ reverse-append back (without_spaces (reverse rest))),
    )

-- ink between white space is what is left
pub trimmed_between : (before v after : List ℕ) → AreSpaces before → AreSpaces after → AllByRecursion IsInk v → 0 < length v → trimmed (before ++ (v ++ after)) ≡ v
trimmed_between before v after sb sa ink some =
    let front : without_spaces (before ++ (v ++ after)) ≡ v ++ after = skipped before (v ++ after) sb ∙ stopped v after ink some in
    let back : without_spaces (reverse (v ++ after)) ≡ reverse v
    = ap without_spaces (reverse-append v after) ∙ skipped (reverse after) (reverse v) (all_reverse (λ c. IsTrue (is_space c)) after sa)
    ∙ stopped_all (reverse v) (all_reverse IsInk v ink) in
    ap (λ t. reverse (without_spaces (reverse t))) front ∙ ap reverse back ∙ reverse-reverse v

ink_digit : (c : ℕ) → digit_value c < 10 → IsInk c
ink_digit c lt = let range : IsInRange 48 57 c = digit_from_value c lt in grind (arith, nat_tests)

ink_digits : (ds : List ℕ) → AllDigits 10 ds → AllByRecursion IsInk ds
ink_digits [] all = tt
ink_digits (d ∷ ds) all = (ink_digit d all.0, ink_digits ds all.1)

ink_sign : (negative : Bool) → AllByRecursion IsInk (sign_text negative)
ink_sign true = (refl, tt)
ink_sign false = tt

numeral_ink : (v : List ℕ) (z : ℤ) → IsNumeral v z → AllByRecursion IsInk v
numeral_ink v z is =
    subst (AllByRecursion IsInk) (sym is.written) (all_append IsInk (sign_text is.negative) is.digits (ink_sign is.negative) (ink_digits is.digits is.decimal))

numeral_some : (v : List ℕ) (z : ℤ) → IsNumeral v z → 0 < length v
numeral_some v z is = omega (arith, ap length is.written, length-append (sign_text is.negative) is.digits, is.some)

-- what a numeral's number is
number_of_written : (negative : Bool) (ds : List ℕ) → AreDigits ds → numeral_number (sign_text negative ++ ds) ≡ Whole (signed negative (digits_value 10 ds))
number_of_written true ds is = numeral_minus (45 ∷ ds) (omega arith) refl ∙ digits_number_some true ds is
number_of_written false [] is = absurd (omega (arith, is.some))
number_of_written false (d ∷ ds) is =
    let range : IsInRange 48 57 d = digit_from_value d is.decimal.0 in
    numeral_plain (d ∷ ds) (omega arith) (λ e. omega arith) ∙ digits_number_some false (d ∷ ds) is

numeral_whole : (v : List ℕ) (z : ℤ) → IsNumeral v z → numeral_number v ≡ Whole z
numeral_whole v z is =
    ap numeral_number is.written ∙ number_of_written is.negative is.digits (record { decimal = is.decimal; some = is.some; few = is.few }) ∙ ap Whole (sym is.amount)

whole_numeral : (v : List ℕ) (z : ℤ) → numeral_number v ≡ Whole z → IsNumeral v z
whole_numeral [] z h = absurd (cc)
whole_numeral (c ∷ cs) z h =
    elim (cases_eq c 45) [
      | inl minus ↦ (
          let (is, amount) = digits_number_whole true cs z (sym (numeral_minus (c ∷ cs) (omega arith) minus) ∙ h) in
          record { negative = true; digits = cs; written = ap (λ d. d ∷ cs) minus; decimal = is.decimal; some = is.some; few = is.few; amount = amount }
          )
      | inr plain ↦ (
          let (is, amount) = digits_number_whole false (c ∷ cs) z (sym (numeral_plain (c ∷ cs) (omega arith) plain) ∙ h) in
          record { negative = false; digits = c ∷ cs; written = refl; decimal = is.decimal; some = is.some; few = is.few; amount = amount }
          )
    ]

-- `text_number` is the number that a text spells
pub whole_from_spells : (text : List ℕ) (z : ℤ) → Spells text z → text_number text ≡ Whole z
whole_from_spells text z s =
    ap text_number s.whole ∙ (ap numeral_number (trimmed_between s.before s.numeral s.after s.spaces_before s.spaces_after (numeral_ink s.numeral z s.spelt) (numeral_some s.numeral z s.spelt)) ∙ numeral_whole s.numeral z s.spelt)

pub spells_from_whole : (text : List ℕ) (z : ℤ) → text_number text ≡ Whole z → Spells text z
spells_from_whole text z h =
    let (before, after, spaces_before, spaces_after, whole) = trimmed_parts text in
    record { before = before; numeral = trimmed text; after = after; whole = whole; spaces_before = spaces_before; spaces_after = spaces_after; spelt = whole_numeral (trimmed text) z h }

pub nan_spells_none : (text : List ℕ) → text_number text ≡ NaN → (z : ℤ) → Spells text z → ⊥
nan_spells_none text h z s = let clash : NaN ≡ Whole z = sym h ∙ whole_from_spells text z s in cc

nan_by : (text : List ℕ) (n : Num) → text_number text ≡ n → ((z : ℤ) → Spells text z → ⊥) → text_number text ≡ NaN
nan_by text NaN e none = e
nan_by text (Whole z) e none = absurd (none z (spells_from_whole text z e))

pub nan_from_none : (text : List ℕ) → ((z : ℤ) → Spells text z → ⊥) → text_number text ≡ NaN
nan_from_none text none = nan_by text (text_number text) refl none

-- a text that spells a number is ASCII
ascii_cons : (c : ℕ) (cs : List ℕ) → c < 128 → IsAscii cs → IsAscii (c ∷ cs)
ascii_cons c cs low rest zero = low
ascii_cons c cs low rest (suc i) = rest i

space_low : (c : ℕ) → is_space c ≡ true → c < 128
space_low c e = grind (arith, nat_tests)

ascii_spaces : (xs : List ℕ) → AreSpaces xs → IsAscii xs
ascii_spaces [] s = λ i. omega arith
ascii_spaces (c ∷ xs) s = ascii_cons c xs (space_low c s.0) (ascii_spaces xs s.1)

ascii_sign : (negative : Bool) → IsAscii (sign_text negative)
ascii_sign true = ascii_cons 45 [] (omega arith) (λ i. omega arith)
ascii_sign false = λ i. omega arith

pub ascii_numeral : (v : List ℕ) (z : ℤ) → IsNumeral v z → IsAscii v
ascii_numeral v z is = subst IsAscii (sym is.written) (IsAscii-append (sign_text is.negative) is.digits (ascii_sign is.negative) (IsAscii-from_digits is.digits is.decimal))

ascii_spelt : (text : List ℕ) (z : ℤ) → Spells text z → IsAscii text
ascii_spelt text z s =
    subst IsAscii (sym s.whole) (IsAscii-append s.before (s.numeral ++ s.after) (ascii_spaces s.before s.spaces_before)
    (IsAscii-append s.numeral s.after (ascii_numeral s.numeral z s.spelt) (ascii_spaces s.after s.spaces_after)))

-- the number of a text by its bytes is that by its characters
number_by : (bs : List ℕ) → IsUtf8 bs → (m n : Num) → text_number bs ≡ m → text_number (chars bs) ≡ n → text_number bs ≡ text_number (chars bs)
number_by bs u (Whole z) n e f = ap text_number (sym (chars-IsAscii bs (ascii_spelt bs z (spells_from_whole bs z e))))
number_by bs u NaN NaN e f = e ∙ sym f
number_by bs u NaN (Whole z) e f =
    let ascii : IsAscii (chars bs) = ascii_spelt (chars bs) z (spells_from_whole (chars bs) z f) in
    ap text_number (sym (encodes-chars bs u) ∙ encodes-IsAscii (chars bs) ascii)

pub number_of_bytes : (bs : List ℕ) → IsUtf8 bs → text_number bs ≡ text_number (chars bs)
number_of_bytes bs u = number_by bs u (text_number bs) (text_number (chars bs)) refl refl
