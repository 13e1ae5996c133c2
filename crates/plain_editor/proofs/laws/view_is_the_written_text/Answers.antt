use Rattle.tree_lines.proofs.Faultless.{document_whole}
use Rattle.plain_editor.proofs.Shown.{texts_of-start}
use Rattle.plain_editor.proofs.laws.view_is_the_written_text.Goals as goal

pub returns : goal.returns
returns c = texts_of-start document_whole
