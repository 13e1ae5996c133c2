use Rattle.std.proofs.Common.{Some, inl, inr, sym, ◌∙◌, ap, subst, arith}
use Rattle.std.proofs.lemmas.Bool.{both_ways}
use Rattle.std.proofs.lemmas.Slice.Eq.{bytes_eq-Decides}
use Rattle.fo_lengths.specs.DecimalNumber.{Decimal, IsDecimal}
use Rattle.fo_lengths.specs.UnitOfLength.{unit_name, length_in}
use Rattle.fo_lengths.specs.Scan.{decimal_of}
use Rattle.fo_lengths.proofs.Decimals.{decimal_same, measure_split, millionths_small, unit_one, amounts_same}
use Rattle.fo_lengths.proofs.lengths.length_value.Goals as goal

pub returns-in_err-unit-clause-only : goal.returns-in_err-unit-clause-only
returns-in_err-unit-clause-only c length (inl m) =
    let same = decimal_same c.args.value.now (decimal_of c.split_decimal.result.0) m.number _ (unit_name m.unit) c.split_decimal.ensures (measure_split c.args.value.now length m) in
    absurd (c.in_err-unit.ensures.none m.unit same.1)
returns-in_err-unit-clause-only c length (inr z) = absurd (both_ways _ c.if-eq.false (c.eq.ensures ∙ (bytes_eq-Decides _ _).1 z.written))

pub returns-in_err-millionths-clause-only : goal.returns-in_err-millionths-clause-only
returns-in_err-millionths-clause-only c length (inl m) =
    let same = decimal_same c.args.value.now (decimal_of c.split_decimal.result.0) m.number _ (unit_name m.unit) c.split_decimal.ensures (measure_split c.args.value.now length m) in
    absurd (c.in_err-millionths.ensures (subst IsDecimal (sym same.0) m.decimal))
returns-in_err-millionths-clause-only c length (inr z) = absurd (both_ways _ c.if-eq.false (c.eq.ensures ∙ (bytes_eq-Decides _ _).1 z.written))

pub length-requires : goal.length-requires
length-requires c = omega (arith, c.in_ok-millionths.ensures.1, millionths_small (decimal_of c.split_decimal.result.0) c.in_ok-millionths.ensures.0)

pub returns-clause-only : goal.returns-clause-only
returns-clause-only c length (inl m) =
    let number : Decimal = decimal_of c.split_decimal.result.0 in
    let same = decimal_same c.args.value.now number m.number _ (unit_name m.unit) c.split_decimal.ensures (measure_split c.args.value.now length m) in
    ap Some (c.length.ensures ∙ ap (length_in c.in_ok-unit.unit number.negative) c.in_ok-millionths.ensures.1
    ∙ amounts_same c.in_ok-unit.unit m.unit number m.number (unit_one c.in_ok-unit.unit m.unit (sym c.in_ok-unit.ensures.found ∙ same.1)) same.0 ∙ sym m.amount)
returns-clause-only c length (inr z) = absurd (both_ways _ c.if-eq.false (c.eq.ensures ∙ (bytes_eq-Decides _ _).1 z.written))
