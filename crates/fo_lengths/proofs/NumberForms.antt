-- Numbers without a unit: a text is one at most, and has no space.
use Rattle.std.proofs.Common.{◌≡◌, ℕ, ℤ, List, [], sym, ◌∙◌, ap, subst, append-nil}
use Rattle.fo_lengths.specs.DecimalNumber.{Decimal, decimal_text, millionths, signed}
use Rattle.fo_lengths.specs.NumberValue.{IsNumberValue}
use Rattle.fo_lengths.specs.Scan.{BeginsWithout, IsSplitBehindDecimal}
use Rattle.fo_lengths.proofs.Edges.{HasNoSpace, IsTight, tight}
use Rattle.fo_lengths.proofs.Decimals.{decimal_same, decimal_split, decimal_no_space}

nothing_begins : (byte : ℕ) → BeginsWithout byte []
nothing_begins byte rest e = cc

-- a number is itself, with nothing behind it
pub number_split : (value : List ℕ) (amount : ℤ) → (n : IsNumberValue value amount) → IsSplitBehindDecimal value n.number []
number_split value amount n =
    decimal_split value n.number [] n.decimal (nothing_begins 45) (nothing_begins 46) tt (n.written ∙ sym (append-nil (decimal_text n.number)))

pub amount_same : (d e : Decimal) → d ≡ e → signed d.negative (millionths d) ≡ signed e.negative (millionths e)
amount_same d e same = ap (λ (f : Decimal). signed f.negative (millionths f)) same

pub number_one : (value : List ℕ) (a b : ℤ) → IsNumberValue value a → IsNumberValue value b → a ≡ b
number_one value a b m n =
    m.exact ∙ amount_same m.number n.number (decimal_same value m.number n.number [] [] (number_split value a m) (number_split value b n)).0 ∙ sym n.exact

pub number_tight : (value : List ℕ) (a : ℤ) → IsNumberValue value a → IsTight value
number_tight value a n = let P : List ℕ → Type 0 = HasNoSpace in tight value (subst P (sym n.written) (decimal_no_space n.number n.decimal))
