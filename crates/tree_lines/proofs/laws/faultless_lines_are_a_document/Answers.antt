-- What the lines leave open is closed by those that follow, and the first end that is none of theirs ends neighbours.
use Rattle.tree_lines.proofs.Faultless.{document_from_faultless, one_document}
use Rattle.tree_lines.proofs.laws.faultless_lines_are_a_document.Goals as goal

pub returns-clause-some : goal.returns-clause-some
returns-clause-some c = document_from_faultless

pub returns-clause-one : goal.returns-clause-one
returns-clause-one c = one_document
