use Rattle.source_model.proofs.Parting.{axes_part}
use Rattle.source_model.proofs.laws.five_axes_part_the_nodes.Goals as goal

pub returns : goal.returns
returns c = axes_part
