use Rattle.std.proofs.Common.{◌≡◌, ◌++◌, map, Bor}
use Rattle.serna_kinds.specs.declared.cells.NodeName.{NodeName}
use Rattle.xpath_axes.proofs.walks.add_reversed.Given as goal

abbrev pub invariant-loop-node : goal.invariant-loop-node
invariant-loop-node l = l.out ≡ l.fn.out ++ map (λ (b : Bor NodeName). b.now) l.yielded
