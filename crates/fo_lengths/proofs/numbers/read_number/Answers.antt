use Rattle.fo_lengths.specs.NumberValue.{IsNumberValue}
use Rattle.fo_lengths.proofs.NumberForms.{number_tight}
use Rattle.fo_lengths.proofs.Readers.{read_value, read_bad}
use Rattle.fo_lengths.proofs.numbers.read_number.Goals as goal

pub returns-clause-value : goal.returns-clause-value
returns-clause-value c = read_value IsNumberValue _ number_tight c.args.text.now c.trimmed.result.now c.trimmed.ensures c.number_value.result c.number_value.ensures.found c.number_value.ensures.only c.ok_or.result c.ok_or.ensures.value

pub returns-clause-bad : goal.returns-clause-bad
returns-clause-bad c = read_bad IsNumberValue _ number_tight c.args.text.now c.trimmed.result.now c.trimmed.ensures c.number_value.result c.number_value.ensures.found c.number_value.ensures.only c.ok_or.result c.ok_or.ensures.value
