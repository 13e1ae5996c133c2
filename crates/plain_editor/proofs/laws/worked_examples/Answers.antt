use Rattle.plain_editor.proofs.Rows.{empty_is_input, empty_answered, oak_is_input, oak_answered, at_end_answered, into_answered, asks_answered, full_is_input, full_answered, block_is_input, block_answered, cut_is_none, outside_is_none, head_is_none}
use Rattle.plain_editor.proofs.laws.worked_examples.Goals as goal

pub returns : goal.returns
returns c = record {
  empty = empty_is_input;
  empty_shown = empty_answered;
  text = oak_is_input;
  text_shown = oak_answered;
  at_end = at_end_answered;
  into = into_answered;
  told = asks_answered;
  full = full_is_input;
  full_answered = full_answered;
  block = block_is_input;
  block_answered = block_answered;
  cut = cut_is_none;
  outside = outside_is_none;
  head = head_is_none;
}
