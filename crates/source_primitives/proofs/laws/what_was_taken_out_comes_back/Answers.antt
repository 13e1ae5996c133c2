use Rattle.source_primitives.proofs.Undone.{text_comes_back}
use Rattle.source_primitives.proofs.PutBack.{child_comes_back}
use Rattle.source_primitives.proofs.laws.what_was_taken_out_comes_back.Goals as goal

pub returns : goal.returns
returns c = record {
  text = text_comes_back;
  child = child_comes_back;
}
