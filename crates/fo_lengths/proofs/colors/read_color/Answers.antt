use Rattle.fo_lengths.specs.ColorValue.{IsColorValue}
use Rattle.fo_lengths.proofs.ColorForms.{color_tight}
use Rattle.fo_lengths.proofs.Readers.{read_value, read_bad}
use Rattle.fo_lengths.proofs.colors.read_color.Goals as goal

pub returns-clause-value : goal.returns-clause-value
returns-clause-value c = read_value IsColorValue _ color_tight c.args.text.now c.trimmed.result.now c.trimmed.ensures c.color_value.result c.color_value.ensures.found c.color_value.ensures.only c.ok_or.result c.ok_or.ensures.value

pub returns-clause-bad : goal.returns-clause-bad
returns-clause-bad c = read_bad IsColorValue _ color_tight c.args.text.now c.trimmed.result.now c.trimmed.ensures c.color_value.result c.color_value.ensures.found c.color_value.ensures.only c.ok_or.result c.ok_or.ensures.value
