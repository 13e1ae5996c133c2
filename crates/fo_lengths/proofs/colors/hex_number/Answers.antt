use Rattle.std.proofs.Common.{ℕ, ◌≡◌, ◌<◌, ◌+◌, ◌*◌, ◌∙◌, sym, ap, subst, List, take, length, length-take, arith, get_or}
use Rattle.std.specs.Char.{digit_value}
use Rattle.std.specs.Str.Parse.{digits_value}
use Rattle.std.proofs.lemmas.Int.Digits.{digits_more, digits_value_more}
use Rattle.fo_lengths.proofs.Hex.{digit_at, hex_room}
use Rattle.fo_lengths.proofs.colors.hex_number.Goals as goal

pub overflow_mul-number : goal.overflow_mul-number
overflow_mul-number c =
    let sofar : List ℕ = take c.loop-digit.digit-index c.args.digits.now in
    omega (arith, hex_room sofar c.loop-digit.invariant.0 (omega (arith, length-take c.loop-digit.digit-index c.args.digits.now)))

pub overflow_add-number : goal.overflow_add-number
overflow_add-number c =
    let sofar : List ℕ = take c.loop-digit.digit-index c.args.digits.now in
    omega (arith, hex_room sofar c.loop-digit.invariant.0 (omega (arith, length-take c.loop-digit.digit-index c.args.digits.now)), c.in_ok-number.ensures.value)

pub returns-in_err-number : goal.returns-in_err-number
returns-in_err-number c =
    let i = c.loop-digit.digit-index in
    let byte : c.from.result ≡ get_or c.args.digits.now i 0 = c.from.ensures in
    rw c.from_residual.ensures (λ all. c.in_err-number.ensures.value (let P : ℕ → Type 0 = λ k. digit_value k < 16 in subst P (sym byte) (digit_at 16 c.args.digits.now i all c.loop-digit-test.true)))

pub loop-digit-preserved : goal.loop-digit-preserved
loop-digit-preserved c =
    let i = c.loop-digit.digit-index in
    let byte : c.from.result ≡ get_or c.args.digits.now i 0 = c.from.ensures in
    let lt : i < length c.args.digits.now = c.loop-digit-test.true in
    let P : ℕ → Type 0 = λ k. digit_value k < 16 in (
      digits_more 16 c.args.digits.now i lt c.loop-digit.invariant.0 (subst P byte c.in_ok-number.ensures.value.0),
      ap (λ n. n * 16 + c.in_ok-number.field-0) c.loop-digit.invariant.1 ∙ ap (λ d. digits_value 16 (take i c.args.digits.now) * 16 + d) (c.in_ok-number.ensures.value.1 ∙ ap digit_value byte)
          ∙ sym (digits_value_more 16 c.args.digits.now i lt),
    )
