use Rattle.std.proofs.Common.{◌≡◌, ◌+◌, ◌≤◌, ◌++◌, drop}
use Rattle.source_tree.specs.Begun.{numbering, nodes_in}
use Rattle.source_tree.proofs.begin.numbered.Given as goal

abbrev pub invariant-loop-item : goal.invariant-loop-item
invariant-loop-item l =
    (l.numbered.items ++ numbering (l.numbered.made + 1) (drop l.item-index l.items) ≡ numbering 1 l.items) × (l.numbered.made + nodes_in (drop l.item-index l.items) ≡ nodes_in l.items)
    × (l.numbered.made ≤ l.item-index)
