use Rattle.xpath_syntax.proofs.PatternReads.{one_pattern}
use Rattle.xpath_syntax.proofs.pattern_laws.one_pattern.Goals as goal

pub returns : goal.returns
returns c = one_pattern
