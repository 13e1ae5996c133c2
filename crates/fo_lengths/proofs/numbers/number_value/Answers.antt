use Rattle.std.proofs.Common.{rules, w64, to_z-of_z, ◌≡◌, ◌==◌, true, false, length, ℕ, List, [], Some, sym, ◌∙◌, ap, subst, arith}
use Rattle.fo_lengths.specs.DecimalNumber.{Decimal, IsDecimal, signed}
use Rattle.fo_lengths.specs.Scan.{decimal_of}
use Rattle.fo_lengths.proofs.Decimals.{decimal_same, millionths_small}
use Rattle.fo_lengths.proofs.NumberForms.{number_split, amount_same}
use Rattle.fo_lengths.proofs.numbers.number_value.Goals as goal

pub returns-then-not-is_empty-clause-only : goal.returns-then-not-is_empty-clause-only
returns-then-not-is_empty-clause-only c amount n =
    let same = decimal_same c.args.value.now (decimal_of c.split_decimal.result.0) n.number _ [] c.split_decimal.ensures (number_split c.args.value.now amount n) in
    absurd (let none : c.split_decimal.result.1.now ≡ [] = same.1 in
    let bad : true ≡ false = sym (c.is_empty.ensures ∙ ap (λ (xs : List ℕ). length xs == 0) none) ∙ c.if-not-is_empty.true in cc)

pub returns-in_err-millionths-clause-only : goal.returns-in_err-millionths-clause-only
returns-in_err-millionths-clause-only c amount n =
    let same = decimal_same c.args.value.now (decimal_of c.split_decimal.result.0) n.number _ [] c.split_decimal.ensures (number_split c.args.value.now amount n) in
    absurd (c.in_err-millionths.ensures (subst IsDecimal (sym same.0) n.decimal))

pub with_sign-requires : goal.with_sign-requires
with_sign-requires c = omega (arith, c.in_ok-millionths.ensures.1, millionths_small (decimal_of c.split_decimal.result.0) c.in_ok-millionths.ensures.0)

pub returns-clause-only : goal.returns-clause-only
returns-clause-only c amount n =
    let number : Decimal = decimal_of c.split_decimal.result.0 in
    let same = decimal_same c.args.value.now number n.number _ [] c.split_decimal.ensures (number_split c.args.value.now amount n) in
    ap Some (to_z-of_z {w = w64} {z = c.with_sign.result} (search rules) ∙ (c.with_sign.ensures ∙ ap (signed number.negative) c.in_ok-millionths.ensures.1 ∙ amount_same number n.number same.0 ∙ sym n.exact))
