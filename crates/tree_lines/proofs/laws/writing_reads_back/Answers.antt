-- What is written reads back.
use Rattle.tree_lines.proofs.ReadingBack.{reads_back-writable, in_lines-writable}
use Rattle.tree_lines.proofs.laws.writing_reads_back.Goals as goal

pub returns-clause-back : goal.returns-clause-back
returns-clause-back c = reads_back-writable

pub returns-clause-lines : goal.returns-clause-lines
returns-clause-lines c = in_lines-writable
