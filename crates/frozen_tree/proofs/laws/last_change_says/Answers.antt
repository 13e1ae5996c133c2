use Rattle.frozen_tree.proofs.LawLemmas.{last_value}
use Rattle.frozen_tree.proofs.laws.last_change_says.Goals as goal

pub returns : goal.returns
returns c = last_value
