use Rattle.std.proofs.Common.{refl}
use Rattle.fo_tables.proofs.laws.examples_of_widths.Goals as goal

pub returns : goal.returns
returns c = record { shares = refl; rest = refl; percentage = refl; too_wide = refl; below_0 = refl; past = refl; none = refl }
