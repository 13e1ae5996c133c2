use Rattle.xpath_values.proofs.Spelling.{spells_from_whole, whole_from_spells}
use Rattle.xpath_values.proofs.Written.{back, one_value, text_number_short, written}
use Rattle.xpath_values.proofs.laws.numbers_and_texts.Goals as goal

pub returns : goal.returns
returns c = record {
  spelt = λ text value. (spells_from_whole text value, whole_from_spells text value);
  one = one_value;
  short = text_number_short;
  back = back;
  written = written;
}
