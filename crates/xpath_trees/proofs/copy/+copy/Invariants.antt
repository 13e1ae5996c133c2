-- What is copied so far is the front of the list.
use Rattle.std.proofs.Common.{◌≡◌, take}
use Rattle.xpath_trees.proofs.copy.+copy.Given as goal

abbrev pub invariant-copy_all-loop-expr : goal.invariant-copy_all-loop-expr
invariant-copy_all-loop-expr l = l.copies ≡ take l.expr-index l.exprs

abbrev pub invariant-copy_compared-loop-op : goal.invariant-copy_compared-loop-op
invariant-copy_compared-loop-op l = l.copies ≡ take l.op-index l.others

abbrev pub invariant-copy_computed-loop-op : goal.invariant-copy_computed-loop-op
invariant-copy_computed-loop-op l = l.copies ≡ take l.op-index l.others

abbrev pub invariant-copy_steps-loop-step : goal.invariant-copy_steps-loop-step
invariant-copy_steps-loop-step l = l.copies ≡ take l.step-index l.steps
