-- The names of the tree are the table's.
use Rattle.serna_kinds.proofs.NameLemmas.{Grows-refl}
use Rattle.template_run.proofs.tests.sheet.Goals as goal

pub compile-requires : goal.compile-requires
compile-requires c = record { named = (c.in-Ok.ensures.named c.read_tree.new.names (Grows-refl c.read_tree.new.names), tt) }
