use Rattle.fo_lengths.specs.LengthValue.{IsLengthValue}
use Rattle.fo_lengths.proofs.Decimals.{length_tight}
use Rattle.fo_lengths.proofs.Readers.{read_value, read_bad}
use Rattle.fo_lengths.proofs.lengths.read_length.Goals as goal

pub returns-clause-value : goal.returns-clause-value
returns-clause-value c = read_value IsLengthValue _ length_tight c.args.text.now c.trimmed.result.now c.trimmed.ensures c.length_value.result c.length_value.ensures.found c.length_value.ensures.only c.ok_or.result c.ok_or.ensures.value

pub returns-clause-bad : goal.returns-clause-bad
returns-clause-bad c = read_bad IsLengthValue _ length_tight c.args.text.now c.trimmed.result.now c.trimmed.ensures c.length_value.result c.length_value.ensures.found c.length_value.ensures.only c.ok_or.result c.ok_or.ensures.value
