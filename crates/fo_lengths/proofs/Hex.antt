-- Numbers in digits that are read one by one, and the values of a colour's digits.
use Rattle.std.proofs.Common.{ℕ, zero, suc, ◌^◌, ◌<◌, ◌≤◌, List, [], ◌∷◌, Option, Some, None, length, get_or, refl, inr, arith}
use Rattle.std.specs.Char.{digit_value}
use Rattle.std.specs.Option.{SomeIff, IfSome}
use Rattle.fo_lengths.specs.ColorValue.{IsHexDigits}
use Rattle.std.specs.Str.Parse.{AllDigits, digits_value}
use Rattle.std.proofs.Math.Nat.{pow-le-pow_right}
use Rattle.std.proofs.lemmas.Int.Digits.{digits_value-lt}

-- each digit is below the radix
pub digit_at : (radix : ℕ) (ds : List ℕ) (i : ℕ) → AllDigits radix ds → i < length ds → digit_value (get_or ds i 0) < radix
digit_at radix [] i all lt = absurd (omega arith)
digit_at radix (d ∷ ds) zero all lt = all.0
digit_at radix (d ∷ ds) (suc i) all lt = digit_at radix ds i all.1 (omega arith)

-- up to six hexadecimal digits leave room for one more
pub hex_room : (ds : List ℕ) → AllDigits 16 ds → length ds ≤ 6 → digits_value 16 ds < 16 ^ 6
hex_room ds all few = omega (arith, digits_value-lt 16 ds all, pow-le-pow_right {n = 16} (omega arith) few)

-- three digits stand for six
pub three_found : (digits : List ℕ) → 3 ≤ length digits → length digits < 4 → (o : Option ℕ) →
    SomeIff o (AllDigits 16 (get_or digits 0 0 ∷ get_or digits 0 0 ∷ get_or digits 1 0 ∷ get_or digits 1 0 ∷ get_or digits 2 0 ∷ get_or digits 2 0 ∷ []))
    (digits_value 16 (get_or digits 0 0 ∷ get_or digits 0 0 ∷ get_or digits 1 0 ∷ get_or digits 1 0 ∷ get_or digits 2 0 ∷ get_or digits 2 0 ∷ [])) →
    IfSome o (IsHexDigits digits)
three_found [] few many o h = absurd (omega arith)
three_found (r ∷ []) few many o h = absurd (omega arith)
three_found (r ∷ g ∷ []) few many o h = absurd (omega arith)
three_found (r ∷ g ∷ b ∷ []) few many None h = tt
three_found (r ∷ g ∷ b ∷ []) few many (Some n) h = inr (r, g, b, refl, record { hexadecimal = h.0; six = refl; value = h.1 })
three_found (r ∷ g ∷ b ∷ x ∷ xs) few many o h = absurd (omega arith)
