use Rattle.source_tree.proofs.PrintedBack.{stays_printable}
use Rattle.source_tree.proofs.laws.typing_keeps_a_source_writable.Goals as goal

pub returns : goal.returns
returns c = stays_printable
