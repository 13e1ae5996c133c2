use Rattle.fo_tables.proofs.Stacked.{rows_high_enough, none_lower, length-heights}
use Rattle.fo_tables.proofs.laws.rows_are_as_high_as_needed.Goals as goal

pub returns : goal.returns
returns c = record { enough = rows_high_enough; least = none_lower; count = length-heights }
