use Rattle.source_tree.proofs.PrintedBack.{begun_printable}
use Rattle.source_tree.proofs.laws.a_begun_source_is_writable.Goals as goal

pub returns : goal.returns
returns c = begun_printable
