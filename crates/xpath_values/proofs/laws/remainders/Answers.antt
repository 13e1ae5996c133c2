use Rattle.std.proofs.Common.{sym}
use Rattle.std.specs.Int.RustNames.{int_div}
use Rattle.std.proofs.lemmas.Int.{quot-rem}
use Rattle.xpath_values.proofs.Division.{number_short, rem_smaller, rem_from_zero, rem_to_zero, rem_answer, rem_by_zero}
use Rattle.xpath_values.proofs.laws.remainders.Goals as goal

pub returns : goal.returns
returns c = record {
  short = number_short;
  parts = λ x y. (int_div x y, sym (quot-rem x y));
  smaller = rem_smaller;
  from_zero = rem_from_zero;
  to_zero = rem_to_zero;
  answer = rem_answer;
  by_zero = rem_by_zero;
}
