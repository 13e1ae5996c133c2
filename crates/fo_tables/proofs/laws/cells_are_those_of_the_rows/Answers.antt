use Rattle.fo_tables.proofs.Grids.{same_spans, within_part}
use Rattle.fo_tables.proofs.laws.cells_are_those_of_the_rows.Goals as goal

pub returns : goal.returns
returns c = record { same = same_spans; within = within_part }
