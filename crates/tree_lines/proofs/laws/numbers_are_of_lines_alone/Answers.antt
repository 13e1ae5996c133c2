use Rattle.tree_lines.proofs.Lineless.{lineless-given_of}
use Rattle.tree_lines.proofs.laws.numbers_are_of_lines_alone.Goals as goal

pub returns : goal.returns
returns c = lineless-given_of
