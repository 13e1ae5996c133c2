use Rattle.frozen_tree.proofs.LawLemmas.{unnamed_value, unnamed_stamp}
use Rattle.frozen_tree.proofs.laws.unnamed_cells_stay.Goals as goal

pub returns : goal.returns
returns c = record { value = unnamed_value; stamp = unnamed_stamp }
