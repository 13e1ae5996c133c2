use Rattle.std.proofs.Common.{◌≡◌, ◌++◌, take}
use Rattle.xpath_axes.proofs.walks.add_nodes.Given as goal

abbrev pub invariant-loop-node : goal.invariant-loop-node
invariant-loop-node l = l.out ≡ l.initial.out ++ take l.node-index l.nodes
