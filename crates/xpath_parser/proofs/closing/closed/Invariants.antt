use Rattle.std.proofs.Common.{◌≡◌, length}
use Rattle.xpath_parser.specs.Machine.{closed}
use Rattle.xpath_parser.proofs.closing.closed.Given as goal

abbrev pub invariant-loop-top : goal.invariant-loop-top
invariant-loop-top l = closed l.least l.tree l.stack ≡ closed l.least l.fn.tree l.fn.stack

abbrev pub decreases-loop-top : goal.decreases-loop-top
decreases-loop-top l = length l.stack
