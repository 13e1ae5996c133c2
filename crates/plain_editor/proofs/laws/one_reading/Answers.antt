use Rattle.tree_lines.proofs.Faultless.{one_document}
use Rattle.plain_editor.proofs.Readings.{one_reading, written_once}
use Rattle.plain_editor.proofs.laws.one_reading.Goals as goal

pub returns-clause-sections : goal.returns-clause-sections
returns-clause-sections c = one_reading one_document

pub returns-clause-written : goal.returns-clause-written
returns-clause-written c = written_once one_document
