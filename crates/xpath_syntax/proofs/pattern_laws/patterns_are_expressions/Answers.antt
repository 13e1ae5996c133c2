use Rattle.xpath_syntax.proofs.PatternLawLemmas.{pattern_expr}
use Rattle.xpath_syntax.proofs.pattern_laws.patterns_are_expressions.Goals as goal

pub returns : goal.returns
returns c = pattern_expr
