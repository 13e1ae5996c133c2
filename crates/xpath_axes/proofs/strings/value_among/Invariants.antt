use Rattle.std.proofs.Common.{◌≡◌, drop}
use Rattle.xpath_axes.specs.Nodes.{value_among}
use Rattle.xpath_axes.proofs.strings.value_among.Given as goal

-- none of the pairs so far has the name
abbrev pub invariant-loop-pair : goal.invariant-loop-pair
invariant-loop-pair l = value_among l.name (drop l.pair-index l.pairs) ≡ value_among l.name l.pairs
