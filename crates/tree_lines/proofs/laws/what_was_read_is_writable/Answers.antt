use Rattle.tree_lines.proofs.Faultless.{document_whole}
use Rattle.tree_lines.proofs.Writability.{document_writable}
use Rattle.tree_lines.proofs.laws.what_was_read_is_writable.Goals as goal

pub returns : goal.returns
returns c = λ names table numbers document is grown. document_writable names table numbers document is grown (document_whole table numbers document is)
