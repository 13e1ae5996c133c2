use Rattle.source_tree.proofs.Lineless.{begun-lineless}
use Rattle.source_tree.proofs.laws.lines_do_not_show.Goals as goal

pub returns : goal.returns
returns c = begun-lineless
