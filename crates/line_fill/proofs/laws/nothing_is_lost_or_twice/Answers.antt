use Rattle.line_fill.proofs.LineLaws.{all_once, text_once, all_hanging}
use Rattle.line_fill.proofs.laws.nothing_is_lost_or_twice.Goals as goal

pub returns-clause-clusters : goal.returns-clause-clusters
returns-clause-clusters c = all_once

pub returns-clause-text : goal.returns-clause-text
returns-clause-text c = text_once

pub returns-clause-hanging : goal.returns-clause-hanging
returns-clause-hanging c = all_hanging
