use Rattle.std.proofs.Common.{subst, ap}
use Rattle.serna_kinds.specs.Tape.{AreDistinctCells}
use Rattle.serna_kinds.proofs.TapeLemmas.{AreDistinctCells-from_unique}
use Rattle.serna_kinds.proofs.tape.Tape.cells.Goals as goal

pub returns-clause-distinct : goal.returns-clause-distinct
returns-clause-distinct c = subst AreDistinctCells (ap (λ t. t.cells) c.self.view_is) (AreDistinctCells-from_unique _ c.as_slice.ensures.unique)
