use Rattle.std.proofs.Common.{◌≡◌, ◌++◌, length}
use Rattle.xpath_tokens.proofs.stack.Stack.from_items.Given as goal

abbrev pub invariant-loop-last : goal.invariant-loop-last
invariant-loop-last g l = l.items ++ l.stack ≡ l.fn.items

abbrev pub decreases-loop-last : goal.decreases-loop-last
decreases-loop-last g l = length l.items
