use Rattle.xpath_values.proofs.Orders.{pair_less, pair_less_or_equal, pair_greater, pair_greater_or_equal}
use Rattle.xpath_values.proofs.comparisons.some_pair.Goals as goal

pub returns-in-Less : goal.returns-in-Less
returns-in-Less c = pair_less c.args.op c.args.lefts.now c.args.rights.now _ _ _ c.in-Less.is c.is_below.ensures c.least.ensures c.greatest.ensures

pub returns-in-LessOrEqual : goal.returns-in-LessOrEqual
returns-in-LessOrEqual c = pair_less_or_equal c.args.op c.args.lefts.now c.args.rights.now _ _ _ c.in-LessOrEqual.is c.is_up_to.ensures c.least-in-LessOrEqual.ensures c.greatest-in-LessOrEqual.ensures

pub returns-in-Greater : goal.returns-in-Greater
returns-in-Greater c = pair_greater c.args.op c.args.lefts.now c.args.rights.now _ _ _ c.in-Greater.is c.is_below-in-Greater.ensures c.least-in-Greater.ensures c.greatest-in-Greater.ensures

pub returns-in-GreaterOrEqual : goal.returns-in-GreaterOrEqual
returns-in-GreaterOrEqual c = pair_greater_or_equal c.args.op c.args.lefts.now c.args.rights.now _ _ _ c.in-GreaterOrEqual.is c.is_up_to-in-GreaterOrEqual.ensures c.least-in-GreaterOrEqual.ensures c.greatest-in-GreaterOrEqual.ensures
