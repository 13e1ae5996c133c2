use Rattle.std.proofs.Common.{ℕ, ◌≡◌, ◌<◌, ◌+◌, ◌*◌, ◌∙◌, sym, ap, subst, List, take, length, length-take, arith, get_or}
use Rattle.std.specs.Char.{digit_value}
use Rattle.std.specs.Str.Parse.{digits_value}
use Rattle.std.proofs.lemmas.Int.Digits.{digits_more, digits_value_more}
use Rattle.xpath_values.proofs.Digits.{digit_at, digits_room}
use Rattle.xpath_values.proofs.numerals.size_of_digits.Goals as goal

pub overflow_mul-number : goal.overflow_mul-number
overflow_mul-number c =
    let sofar : List ℕ = take c.loop-digit.digit-index c.args.digits.now in
    omega (arith, digits_room sofar c.loop-digit.invariant.0 (omega (arith, length-take c.loop-digit.digit-index c.args.digits.now)))

pub overflow_add-number : goal.overflow_add-number
overflow_add-number c =
    let sofar : List ℕ = take c.loop-digit.digit-index c.args.digits.now in
    omega (arith, digits_room sofar c.loop-digit.invariant.0 (omega (arith, length-take c.loop-digit.digit-index c.args.digits.now)), c.in_ok-to_digit.ensures.value, c.from-in-loop-digit.ensures)

pub returns-in_err-to_digit : goal.returns-in_err-to_digit
returns-in_err-to_digit c =
    let i = c.loop-digit.digit-index in
    let byte : c.from.result ≡ get_or c.args.digits.now i 0 = c.from.ensures in
    rw c.from_residual.ensures (λ all. c.in_err-to_digit.ensures.value (let P : ℕ → Type 0 = λ k. digit_value k < 10 in subst P (sym byte) (digit_at c.args.digits.now i all c.loop-digit-test.true)))

pub loop-digit-preserved : goal.loop-digit-preserved
loop-digit-preserved c =
    let i = c.loop-digit.digit-index in
    let byte : c.from.result ≡ get_or c.args.digits.now i 0 = c.from.ensures in
    let lt : i < length c.args.digits.now = c.loop-digit-test.true in
    let value : c.from-in-loop-digit.result ≡ digit_value c.from.result = c.from-in-loop-digit.ensures ∙ c.in_ok-to_digit.ensures.value.1 in
    let P : ℕ → Type 0 = λ k. digit_value k < 10 in (
      digits_more 10 c.args.digits.now i lt c.loop-digit.invariant.0 (subst P byte c.in_ok-to_digit.ensures.value.0),
      ap (λ n. n * 10 + c.from-in-loop-digit.result) c.loop-digit.invariant.1 ∙ ap (λ d. digits_value 10 (take i c.args.digits.now) * 10 + d) (value ∙ ap digit_value byte)
          ∙ sym (digits_value_more 10 c.args.digits.now i lt),
    )
