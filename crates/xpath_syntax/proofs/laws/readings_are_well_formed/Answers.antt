-- By what the grammar gives each node, and by the faults that the text has not.
use Rattle.xpath_syntax.proofs.FormedTrees.{reading_formed}
use Rattle.xpath_syntax.proofs.laws.readings_are_well_formed.Goals as goal

pub returns : goal.returns
returns c = reading_formed
