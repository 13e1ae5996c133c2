use Rattle.tree_lines.proofs.Said.{document_named}
use Rattle.tree_lines.proofs.laws.documents_are_named.Goals as goal

pub returns : goal.returns
returns c = document_named
