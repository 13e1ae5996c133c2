use Rattle.fo_lengths.specs.WholeNumber.{IsWholeNumber}
use Rattle.fo_lengths.proofs.Readers.{read_value, read_bad}
use Rattle.fo_lengths.proofs.Values.{whole_tight}
use Rattle.fo_lengths.proofs.whole.read_whole.Goals as goal

pub returns-clause-value : goal.returns-clause-value
returns-clause-value c = read_value IsWholeNumber _ whole_tight c.args.text.now c.trimmed.result.now c.trimmed.ensures c.whole_number.result c.whole_number.ensures.found c.whole_number.ensures.only c.ok_or.result c.ok_or.ensures.value

pub returns-clause-bad : goal.returns-clause-bad
returns-clause-bad c = read_bad IsWholeNumber _ whole_tight c.args.text.now c.trimmed.result.now c.trimmed.ensures c.whole_number.result c.whole_number.ensures.found c.whole_number.ensures.only c.ok_or.result c.ok_or.ensures.value
