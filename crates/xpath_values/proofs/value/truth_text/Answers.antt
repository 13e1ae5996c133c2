use Rattle.std.proofs.Common.{sym, ap}
use Rattle.std.specs.Str.{chars}
use Rattle.xpath_values.specs.Values.{truth_text_of}
use Rattle.xpath_values.proofs.value.truth_text.Goals as goal

pub returns-then-holds : goal.returns-then-holds
unfolding chars
returns-then-holds c = ap truth_text_of (sym c.if-holds.true)

pub returns-else-holds : goal.returns-else-holds
unfolding chars
returns-else-holds c = ap truth_text_of (sym c.if-holds.false)
