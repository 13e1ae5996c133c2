use Rattle.xpath_values.specs.Sides.{operand_of}
use Rattle.xpath_values.proofs.Orders.{right_less, right_less_or_equal, right_greater, right_greater_or_equal}
use Rattle.xpath_values.proofs.comparisons.some_right.Goals as goal

pub returns-in-Less : goal.returns-in-Less
returns-in-Less c = right_less c.args.op c.args.members.now (operand_of c.args.left) _ _ _ c.in-Less.is c.is_below.ensures c.number.ensures c.greatest.ensures

pub returns-in-LessOrEqual : goal.returns-in-LessOrEqual
returns-in-LessOrEqual c = right_less_or_equal c.args.op c.args.members.now (operand_of c.args.left) _ _ _ c.in-LessOrEqual.is c.is_up_to.ensures c.number-in-LessOrEqual.ensures c.greatest-in-LessOrEqual.ensures

pub returns-in-Greater : goal.returns-in-Greater
returns-in-Greater c = right_greater c.args.op c.args.members.now (operand_of c.args.left) _ _ _ c.in-Greater.is c.is_below-in-Greater.ensures c.least.ensures c.number-in-Greater.ensures

pub returns-in-GreaterOrEqual : goal.returns-in-GreaterOrEqual
returns-in-GreaterOrEqual c = right_greater_or_equal c.args.op c.args.members.now (operand_of c.args.left) _ _ _ c.in-GreaterOrEqual.is c.is_up_to-in-GreaterOrEqual.ensures c.least-in-GreaterOrEqual.ensures c.number-in-GreaterOrEqual.ensures
