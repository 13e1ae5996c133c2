use Rattle.xpath_values.specs.Sides.{operand_of}
use Rattle.xpath_values.proofs.Orders.{left_less, left_less_or_equal, left_greater, left_greater_or_equal}
use Rattle.xpath_values.proofs.comparisons.some_left.Goals as goal

pub returns-in-Less : goal.returns-in-Less
returns-in-Less c = left_less c.args.op c.args.members.now (operand_of c.args.right) _ _ _ c.in-Less.is c.is_below.ensures c.least.ensures c.number.ensures

pub returns-in-LessOrEqual : goal.returns-in-LessOrEqual
returns-in-LessOrEqual c = left_less_or_equal c.args.op c.args.members.now (operand_of c.args.right) _ _ _ c.in-LessOrEqual.is c.is_up_to.ensures c.least-in-LessOrEqual.ensures c.number-in-LessOrEqual.ensures

pub returns-in-Greater : goal.returns-in-Greater
returns-in-Greater c = left_greater c.args.op c.args.members.now (operand_of c.args.right) _ _ _ c.in-Greater.is c.is_below-in-Greater.ensures c.number-in-Greater.ensures c.greatest.ensures

pub returns-in-GreaterOrEqual : goal.returns-in-GreaterOrEqual
returns-in-GreaterOrEqual c = left_greater_or_equal c.args.op c.args.members.now (operand_of c.args.right) _ _ _ c.in-GreaterOrEqual.is c.is_up_to-in-GreaterOrEqual.ensures c.number-in-GreaterOrEqual.ensures c.greatest-in-GreaterOrEqual.ensures
