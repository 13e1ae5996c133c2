use Rattle.std.proofs.Common.{refl}
use Rattle.fo_tables.proofs.laws.examples_of_heights.Goals as goal

pub returns : goal.returns
returns c = record { highest = refl; beyond = refl; low = refl; empty = refl }
