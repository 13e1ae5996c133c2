use Rattle.std.proofs.Common.{subst}
use Rattle.serna_kinds.specs.Names.{AreDistinct}
use Rattle.serna_kinds.proofs.NameLemmas.{AreDistinct-from_unique}
use Rattle.serna_kinds.proofs.names.NameTable.len.Goals as goal

pub returns-clause-distinct : goal.returns-clause-distinct
returns-clause-distinct c = subst AreDistinct c.self.view_is (AreDistinct-from_unique _ c.len.ensures.unique)
