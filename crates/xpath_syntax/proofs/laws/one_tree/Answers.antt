use Rattle.xpath_parser.proofs.Completeness.{one_expr}
use Rattle.xpath_syntax.proofs.laws.one_tree.Goals as goal

pub returns : goal.returns
returns c = one_expr
