use Rattle.fo_lengths.specs.ColorValue.{IsColorValue}
use Rattle.fo_lengths.specs.LengthValue.{IsLengthValue}
use Rattle.fo_lengths.specs.NumberValue.{IsNumberValue}
use Rattle.fo_lengths.specs.WholeNumber.{IsWholeNumber}
use Rattle.fo_lengths.proofs.ColorForms.{color_tight, color_one}
use Rattle.fo_lengths.proofs.Decimals.{length_tight, length_one}
use Rattle.fo_lengths.proofs.NumberForms.{number_tight, number_one}
use Rattle.fo_lengths.proofs.Readers.{one_value, trimmed_one}
use Rattle.fo_lengths.proofs.Values.{whole_tight, whole_one}
use Rattle.fo_lengths.proofs.laws.at_most_one_value.Goals as goal

pub returns-clause-length : goal.returns-clause-length
returns-clause-length c = one_value IsLengthValue length_tight length_one

pub returns-clause-color : goal.returns-clause-color
returns-clause-color c = one_value IsColorValue color_tight color_one

pub returns-clause-whole : goal.returns-clause-whole
returns-clause-whole c = one_value IsWholeNumber whole_tight whole_one

pub returns-clause-number : goal.returns-clause-number
returns-clause-number c = one_value IsNumberValue number_tight number_one

pub returns-clause-trimmed : goal.returns-clause-trimmed
returns-clause-trimmed c = trimmed_one
