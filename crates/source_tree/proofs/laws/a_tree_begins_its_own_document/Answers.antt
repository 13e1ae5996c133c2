use Rattle.source_tree.proofs.TextWritten.{document_begun}
use Rattle.source_tree.proofs.laws.a_tree_begins_its_own_document.Goals as goal

pub returns : goal.returns
returns c = document_begun
