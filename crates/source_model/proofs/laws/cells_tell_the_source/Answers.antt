use Rattle.source_model.proofs.ToldBack.{told_back, same_tree}
use Rattle.source_model.proofs.laws.cells_tell_the_source.Goals as goal

pub returns : goal.returns
returns c = record {
  told = told_back;
  one = same_tree;
}
