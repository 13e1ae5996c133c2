use Rattle.std.proofs.Common.{◌∙◌}
use Rattle.fo_lengths.proofs.Runs.{number_parsed}
use Rattle.fo_lengths.proofs.scan.digits_number.Goals as goal

pub returns : goal.returns
returns c = c.unwrap_or.ensures ∙ number_parsed c.args.digits.now c.parse.result c.parse.ensures.value.0 c.requires.decimal c.requires.few
