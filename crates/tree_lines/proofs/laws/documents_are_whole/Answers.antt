-- By the rules that the lines keep, counted over the tree.
use Rattle.tree_lines.proofs.Faultless.{document_whole}
use Rattle.tree_lines.proofs.laws.documents_are_whole.Goals as goal

pub returns : goal.returns
returns c = document_whole
