-- The words are an expression with the tree.
use Rattle.xpath_writer.proofs.ReadBack.{reads_back}
use Rattle.xpath_writer.proofs.laws.writing_reads_back.Goals as goal

pub returns : goal.returns
returns c = reads_back
