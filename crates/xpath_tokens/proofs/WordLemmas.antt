-- What a token that is written out stands for.
use Rattle.std.proofs.Common.{◌≡◌, ◌≢◌, ◌<◌, ◌≤◌, ◌==◌, ◌&&◌, ℕ, Bool, true, false, cond, List, [], ◌∷◌, length, Result, Ok, Err, sym, refl, ap, ◌∙◌, arith, nat_le}
use Rattle.std.specs.List.{list_all}
use Rattle.std.proofs.lemmas.Bool.Decides.{nat_tests}
use Rattle.std.specs.Char.{digit_value}
use Rattle.std.specs.Int.{IsInRange}
use Rattle.std.specs.Result.{result_unwrap_or}
use Rattle.std.specs.Str.Parse.{AllDigits, ParsesUnsigned, digits_value}
use Rattle.std.proofs.lemmas.Str.{digit_value_digit}
use Rattle.std.proofs.lemmas.Str.Parse.{IsNumeralModel, numerals_by_value, tells_digits, parse_digits, parse_gives, digits_value_short}
use Rattle.serna_kinds.specs.Qualified.{is_digit}
use Rattle.serna_kinds.specs.Qualified.{parted}
use Rattle.xpath_tokens.specs.Symbols.{inside, text_or_none, without_dollar, number_value}

other : (b n : ℕ) → (b ≡ n → ⊥) → (b == n) ≡ false
other b n h = grind (arith, nat_tests)

pub nothing_inside : (text : List ℕ) → ((rest : List ℕ) → text ≢ 34 ∷ rest) → ((rest : List ℕ) → text ≢ 39 ∷ rest) → [] ≡ inside text
nothing_inside [] f g = refl
nothing_inside (b ∷ bs) f g =
    sym (ap (λ v. cond v (text_or_none (parted 34 bs)) (cond (b == 39) (text_or_none (parted 39 bs)) [])) (other b 34 (λ e. f bs (ap (λ x. x ∷ bs) e)))
    ∙ ap (λ v. cond v (text_or_none (parted 39 bs)) []) (other b 39 (λ e. g bs (ap (λ x. x ∷ bs) e))))

pub no_dollar : (text : List ℕ) → ((rest : List ℕ) → text ≢ 36 ∷ rest) → text ≡ without_dollar text
no_dollar [] f = refl
no_dollar (b ∷ bs) f = sym (ap (λ v. cond v bs (b ∷ bs)) (other b 36 (λ e. f bs (ap (λ x. x ∷ bs) e))))

-- Numbers

digit_small : (b : ℕ) → is_digit b ≡ true → digit_value b < 10
digit_small b h = let range = in_range b h in omega (arith, digit_value_digit b range)
  where
    in_range : (c : ℕ) → is_digit c ≡ true → IsInRange 48 57 c
    in_range c e = grind (arith, nat_tests)

both : (a b : Bool) → (a && b) ≡ true → (a ≡ true) × (b ≡ true)
both true b e = (refl, e)
both false b e = cc

are_digits : (text : List ℕ) → list_all is_digit text ≡ true → AllDigits 10 text
are_digits [] e = tt
are_digits (b ∷ bs) e = let parts = both (is_digit b) (list_all is_digit bs) e in (digit_small b parts.0, are_digits bs parts.1)

own : IsNumeralModel (AllDigits 10) (digits_value 10)
own = numerals_by_value (AllDigits 10) tells_digits

empty_unread : (E : Type 0) (n : ℕ) → ParsesUnsigned {E = E} 64 10 [] (Ok n) → ⊥
empty_unread E n h = let read = parse_digits own {E = E} 64 [] (Ok n) h tt in omega (arith, read.0.1)

parsed : {E : Type 0} (digits : List ℕ) (r : Result ℕ E) → ParsesUnsigned 64 10 digits r → AllDigits 10 digits → length digits ≤ 15 → result_unwrap_or r 0 ≡ digits_value 10 digits
parsed {E} [] (Ok n) h all few = absurd (empty_unread E n h)
parsed [] (Err e) h all few = refl
parsed {E} (d ∷ digits) r h all few =
    ap (λ (r : Result ℕ E). result_unwrap_or r 0) (parse_gives own 64 (d ∷ digits) r h all (omega arith) (omega (arith, digits_value_short own (d ∷ digits) 15 all few)))

pub number_read : {E : Type 0} (digits : List ℕ) (r : Result ℕ E) → ParsesUnsigned 64 10 digits r → list_all is_digit digits ≡ true → length digits ≤ 15 → result_unwrap_or r 0 ≡ number_value digits
number_read digits r h all few =
    parsed digits r h (are_digits digits all) few
    ∙ sym (ap (λ v. cond (v && nat_le (length digits) 15) (digits_value 10 digits) 0) all ∙ ap (λ v. cond v (digits_value 10 digits) 0) (at_most (length digits) few))
  where
    at_most : (n : ℕ) → n ≤ 15 → nat_le n 15 ≡ true
    at_most n le = grind (arith, nat_tests)

digits_low : (digits : List ℕ) → list_all is_digit digits ≡ true → length digits ≤ 15 → digits_value 10 digits < 1000000000000000
digits_low digits e few = digits_value_short own digits 15 (are_digits digits e) few

pub number_low : (s : List ℕ) → number_value s < 1000000000000000
number_low s = go (list_all is_digit s) (nat_le (length s) 15) refl refl
  where
    at_most : (n : ℕ) → nat_le n 15 ≡ true → n ≤ 15
    at_most n h = grind (arith, nat_tests)

    go : (v w : Bool) → list_all is_digit s ≡ v → nat_le (length s) 15 ≡ w → cond (v && w) (digits_value 10 s) 0 < 1000000000000000
    go true true e f = digits_low s e (at_most (length s) f)
    go true false e f = omega arith
    go false w e f = omega arith
