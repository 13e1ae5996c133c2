use Rattle.source_tree.proofs.WholeDocument.{whole_document}
use Rattle.source_tree.proofs.laws.documents_of_proper_sources_are_whole.Goals as goal

pub returns : goal.returns
returns c = whole_document
