use Rattle.std.proofs.Common.{sym, take, drop, rules, of_calls, append-nil}
use Rattle.std.proofs.lemmas.Fn.{always_returns_same}
use Rattle.std.proofs.lemmas.List.{take-append-drop}
use Rattle.fo_lengths.proofs.Runs.{is_no_digit, digits_alone, other_first}
use Rattle.fo_lengths.proofs.scan.split_digits.Goals as goal

pub returns-in-Some : goal.returns-in-Some
returns-in-Some c =
    let (j, finds, le, from, to) = c.in-Some.ensures.cases in
    let (before, (k, other, at)) = finds is_no_digit (always_returns_same _ _ _ (λ a r f k. search (rules, of_calls))) in
    rw (c.split_at.ensures.front, c.split_at.ensures.back) (record {
      whole = sym (take-append-drop c.in-Some.end c.args.text.now);
      decimal = digits_alone (take c.in-Some.end c.args.text.now) before;
      longest = other_first (drop c.in-Some.end c.args.text.now) (drop j c.args.text.now) k at.split other;
    })

pub returns-in-None : goal.returns-in-None
returns-in-None c =
    record {
      whole = sym (append-nil c.args.text.now);
      decimal = digits_alone c.args.text.now (c.in-None.ensures.cases is_no_digit (always_returns_same _ _ _ (λ a r f k. search (rules, of_calls))));
      longest = tt;
    }
