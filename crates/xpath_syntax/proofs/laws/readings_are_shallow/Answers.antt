-- By what each bracket can hold.
use Rattle.xpath_syntax.proofs.Shallows.{reading_low}
use Rattle.xpath_syntax.proofs.laws.readings_are_shallow.Goals as goal

pub returns : goal.returns
returns c = reading_low
