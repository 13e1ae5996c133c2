use Rattle.std.proofs.Common.{◌≤◌, length}
use Rattle.xpath_machine.proofs.Stopping.{Standing}
use Rattle.xpath_machine.proofs.reading.parse.Given as goal

abbrev pub invariant-loop-symbol : goal.invariant-loop-symbol
invariant-loop-symbol g l = record {
  shallow : l.depth ≤ 64;
  few : l.count ≤ length l.fn.symbols;
  stands : Standing g.M.Machine.run l.fn.symbols l.count l.symbols l.machine l.depth;
}

abbrev pub decreases-loop-symbol : goal.decreases-loop-symbol
decreases-loop-symbol g l = length l.symbols
