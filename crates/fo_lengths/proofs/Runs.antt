-- Runs of digits: a text begins with one longest run.
use Rattle.std.proofs.Common.{◌≡◌, ℕ, ◌<◌, ◌≤◌, Bool, true, false, not, List, [], ◌∷◌, ◌++◌, length, Result, Ok, Err, inl, inr, refl, sym, ◌∙◌, ap, subst, append-nil, arith}
use Rattle.std.proofs.lemmas.Bool.{cases_lt}
use Rattle.std.proofs.lemmas.Bool.Decides.{nat_tests}
use Rattle.std.proofs.lemmas.Str.{char_from_byte, digit_value_digit, encode_ascii}
use Rattle.std.proofs.lemmas.Str.Parse.{digit_from_value, IsNumeralModel, numerals_by_value, tells_digits, parse_digits, parse_gives, digits_value_short}
use Rattle.std.specs.Char.{digit_value, is_ascii_digit}
use Rattle.std.specs.Int.{IsInRange}
use Rattle.std.specs.Str.{NonePass, NoCharPasses}
use lib.Utf8.{encode, encodes}
use Rattle.std.specs.Str.Parse.{AllDigits, ParsesUnsigned, digits_value}
use Rattle.std.specs.Result.{result_unwrap_or}
use Rattle.fo_lengths.specs.Scan.{BeginsWithNoDigit, IsSplitBehindDigits}

-- two ways to part a text behind its longest run of digits are one
pub run_same : (xs ys us vs : List ℕ) → AllDigits 10 xs → AllDigits 10 ys → BeginsWithNoDigit us → BeginsWithNoDigit vs → xs ++ us ≡ ys ++ vs → (xs ≡ ys) × (us ≡ vs)
run_same [] [] us vs p q f g e = (refl, e)
run_same [] (y ∷ ys) us vs p q f g e =
    let no : BeginsWithNoDigit (y ∷ (ys ++ vs)) = (let P : List ℕ → Type 0 = BeginsWithNoDigit in subst P e f) in absurd (omega (arith, no, q.0))
run_same (x ∷ xs) [] us vs p q f g e =
    let no : BeginsWithNoDigit (x ∷ (xs ++ us)) = (let P : List ℕ → Type 0 = BeginsWithNoDigit in subst P (sym e) g) in absurd (omega (arith, no, p.0))
run_same (x ∷ xs) (y ∷ ys) us vs p q f g e =
    let rest : (xs ≡ ys) × (us ≡ vs) = run_same xs ys us vs p.1 q.1 f g (cc) in (cc, rest.1)

-- not a decimal digit
abbrev pub is_no_digit : ℕ → Bool
is_no_digit c = not (is_ascii_digit c)

digit_range : (c : ℕ) → is_no_digit c ≡ false → IsInRange 48 57 c
digit_range c e = grind (arith, nat_tests)

pub digit_below : (c : ℕ) → IsInRange 48 57 c → digit_value c < 10
digit_below c h = omega (arith, digit_value_digit c h)

no_digit : (c : ℕ) → is_no_digit c ≡ true → IsInRange 48 57 c → ⊥
no_digit c e h = grind (arith, nat_tests)

digits_from_chars : (cs : List ℕ) → NonePass is_no_digit cs → AllDigits 10 cs
digits_from_chars [] h = tt
digits_from_chars (c ∷ cs) h = (digit_below c (digit_range c h.0), digits_from_chars cs h.1)

encode_digits : (cs : List ℕ) → NonePass is_no_digit cs → encodes cs ≡ cs
encode_digits [] h = refl
encode_digits (c ∷ cs) h =
    let range : IsInRange 48 57 c = digit_range c h.0 in
    ap (λ t. t ++ encodes cs) (encode_ascii c (omega arith)) ∙ ap (λ t. c ∷ t) (encode_digits cs h.1)

-- a text with no other character is digits
pub digits_alone : (text : List ℕ) → NoCharPasses is_no_digit text → AllDigits 10 text
digits_alone text (cs, encoded, none) = let P : List ℕ → Type 0 = AllDigits 10 in subst P (sym (encode_digits cs none) ∙ encoded) (digits_from_chars cs none)

-- a text that begins with another character begins with no digit
pub other_first : (text rest : List ℕ) (c : ℕ) → text ≡ encode c ++ rest → is_no_digit c ≡ true → BeginsWithNoDigit text
other_first [] rest c e other = tt
other_first (b ∷ bs) rest c e other =
    elim (cases_lt (digit_value b) 10) [
      | inl digit ↦
          let range : IsInRange 48 57 b = digit_from_value b digit in
          let same : c ≡ b = char_from_byte (b ∷ bs) rest c e (omega arith) (omega arith) in
          absurd (no_digit c other (let P : ℕ → Type 0 = IsInRange 48 57 in subst P (sym same) range))
      | inr above ↦ above
    ]

own : IsNumeralModel (AllDigits 10) (digits_value 10)
own = numerals_by_value (AllDigits 10) tells_digits

empty_unread : (E : Type 0) (n : ℕ) → ParsesUnsigned {E = E} 32 10 [] (Ok n) → ⊥
empty_unread E n h = let read = parse_digits own {E = E} 32 [] (Ok n) h tt in omega (arith, read.0.1)

-- what `parse` makes of up to nine digits, with 0 for none
pub number_parsed : {E : Type 0} (digits : List ℕ) (r : Result ℕ E) → ParsesUnsigned 32 10 digits r → AllDigits 10 digits → length digits ≤ 9 → result_unwrap_or r 0 ≡ digits_value 10 digits
number_parsed {E} [] (Ok n) h all few = absurd (empty_unread E n h)
number_parsed [] (Err e) h all few = refl
number_parsed {E} (d ∷ digits) r h all few =
    ap (λ (r : Result ℕ E). result_unwrap_or r 0) (parse_gives own 32 (d ∷ digits) r h all (omega arith) (omega (arith, digits_value_short own (d ∷ digits) 9 all few)))

-- a text of digits is its own longest run
pub run_alone : (text digits rest : List ℕ) → IsSplitBehindDigits text digits rest → AllDigits 10 text → (length text ≡ length digits) × (length rest ≡ 0)
run_alone text digits rest split all =
    let same : (text ≡ digits) × ([] ≡ rest) = run_same text digits [] rest all split.decimal tt split.longest (append-nil text ∙ split.whole) in
    (ap length same.0, ap length (sym same.1))
