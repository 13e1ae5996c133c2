use Rattle.text_units.proofs.ColumnLemmas.{clusters-columns-le}
use Rattle.text_units.proofs.laws.columns_fit_two_to_a_byte.Goals as goal

pub returns : goal.returns
returns c = clusters-columns-le
