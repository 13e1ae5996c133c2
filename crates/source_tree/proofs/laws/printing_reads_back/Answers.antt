use Rattle.tree_lines.proofs.ReadingBack.{reads_back-writable}
use Rattle.source_tree.specs.Unnumbered.{document_of}
use Rattle.source_tree.proofs.PrintedBack.{prints_back}
use Rattle.source_tree.proofs.laws.printing_reads_back.Goals as goal

pub returns : goal.returns
returns c = λ names source distinct is. prints_back names source (reads_back-writable names source.spaces (document_of source) distinct is)
