use Rattle.fo_tables.proofs.Grids.{once_covered, first_free_each}
use Rattle.fo_tables.proofs.laws.cells_stand_in_free_places.Goals as goal

pub returns : goal.returns
returns c = record { apart = once_covered; first = first_free_each }
