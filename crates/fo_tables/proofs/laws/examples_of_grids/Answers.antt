use Rattle.std.proofs.Common.{refl}
use Rattle.fo_tables.proofs.laws.examples_of_grids.Goals as goal

pub returns : goal.returns
returns c = record { beside = refl; gap = refl; empty = refl }
