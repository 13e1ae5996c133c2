use Rattle.std.proofs.Common.{◌≡◌, ◌≢◌, ℕ, ◌<◌, ◌≤◌, List, length, get_or, Some, None, sym, subst, arith}
use Rattle.std.specs.Char.{digit_value}
use Rattle.std.specs.Str.Parse.{AllDigits}
use Rattle.std.proofs.lemmas.Option.{same_Some}
use Rattle.std.proofs.lemmas.Str.Pattern.{split_after}
use Rattle.fo_lengths.specs.ColorValue.{IsChannel}
use Rattle.fo_lengths.proofs.Hex.{digit_at}
use Rattle.fo_lengths.proofs.colors.split_channel.Goals as goal

-- no digit is the character that ends them
not_among : (digits : List ℕ) (end : ℕ) → AllDigits 10 digits → 10 ≤ digit_value end → (i : ℕ) → i < length digits → get_or digits i 0 ≢ end
not_among digits end all stops i lt e =
    let below : digit_value end < 10 = (let P : ℕ → Type 0 = λ k. digit_value k < 10 in subst P e (digit_at 10 digits i all lt)) in omega arith

pub returns-in_err-digits-clause-only : goal.returns-in_err-digits-clause-only
returns-in_err-digits-clause-only c channel rest is =
    let pieces = split_after c.args.end c.args.text.now is.digits rest c.split_once.result c.split_once.ensures.cases c.requires.ascii is.written (not_among is.digits c.args.end is.is_channel.number.decimal c.requires.no_digit) in
    absurd (rw c.in_err-digits.was at pieces)

pub returns-in_err-channel-clause-only : goal.returns-in_err-channel-clause-only
returns-in_err-channel-clause-only c channel rest is =
    let pieces = split_after c.args.end c.args.text.now is.digits rest c.split_once.result c.split_once.ensures.cases c.requires.ascii is.written (not_among is.digits c.args.end is.is_channel.number.decimal c.requires.no_digit) in
    let same = rw c.in_ok-digits.was at pieces in
    absurd (let none : None ≡ Some channel = c.in_err-channel.ensures.only channel (subst (λ d. IsChannel d channel) (sym same.0) is.is_channel) in cc)

pub returns-clause-only : goal.returns-clause-only
returns-clause-only c channel rest is =
    let pieces = split_after c.args.end c.args.text.now is.digits rest c.split_once.result c.split_once.ensures.cases c.requires.ascii is.written (not_among is.digits c.args.end is.is_channel.number.decimal c.requires.no_digit) in
    let same = rw c.in_ok-digits.was at pieces in
    (same_Some _ _ (c.in_ok-channel.ensures.only channel (subst (λ d. IsChannel d channel) (sym same.0) is.is_channel)), same.1)
