use Rattle.std.proofs.Common.{sym}
use Rattle.xpath_values.proofs.Extremes.{differ_none, differ_some}
use Rattle.xpath_values.proofs.comparisons.some_differ.Goals as goal

pub returns-then-is_empty : goal.returns-then-is_empty
returns-then-is_empty c = differ_none c.in-Some.first.now c.args.lefts.now c.args.rights.now (sym c.if-some_right.ensures) c.if-is_empty.ensures

pub returns : goal.returns
returns c = differ_some c.in-Some.first.now c.args.lefts.now c.args.rights.now c.some_left.result (sym c.if-some_right.ensures) c.if-is_empty.ensures c.some_left.ensures
