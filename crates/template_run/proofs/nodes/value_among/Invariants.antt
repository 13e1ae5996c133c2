use Rattle.std.proofs.Common.{◌≡◌, drop}
use Rattle.template_run.specs.Nodes.{value_among}
use Rattle.template_run.proofs.nodes.value_among.Given as goal

-- none of the pairs so far has the name
abbrev pub invariant-loop-pair : goal.invariant-loop-pair
invariant-loop-pair l = value_among l.name (drop l.pair-index l.pairs) ≡ value_among l.name l.pairs
