use Rattle.std.proofs.Common.{◌≡◌, ◌++◌, take}
use Rattle.xpath_axes.specs.Taken.{taken_attributes}
use Rattle.xpath_axes.proofs.taken.add_attributes.Given as goal

abbrev pub invariant-loop-pair : goal.invariant-loop-pair
invariant-loop-pair l = l.out ≡ l.fn.out ++ taken_attributes l.names l.along l.test l.element (take l.pair-index l.pairs)
