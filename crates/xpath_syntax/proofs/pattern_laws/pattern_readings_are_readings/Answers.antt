use Rattle.xpath_syntax.proofs.PatternReadings.{pattern_reading}
use Rattle.xpath_syntax.proofs.pattern_laws.pattern_readings_are_readings.Goals as goal

pub returns : goal.returns
returns c = pattern_reading
