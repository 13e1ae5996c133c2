-- A document's own lines.
use Rattle.tree_lines.proofs.WrittenBack.{document-written_back}
use Rattle.tree_lines.proofs.laws.reading_writes_back.Goals as goal

pub returns : goal.returns
returns c = document-written_back
