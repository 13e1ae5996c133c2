use Rattle.source_tree.proofs.PrintableGrown.{printable_grown}
use Rattle.source_tree.proofs.laws.printable_while_names_grow.Goals as goal

pub returns : goal.returns
returns c = printable_grown
