use Rattle.std.proofs.Common.{◌≡◌, vec_len}
use Rattle.xpath_values.proofs.tests.called.Given as goal

abbrev pub invariant-loop-text : goal.invariant-loop-text
invariant-loop-text l = vec_len l.arguments ≡ l.text-index
