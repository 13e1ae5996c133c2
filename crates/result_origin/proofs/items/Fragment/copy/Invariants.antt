use Rattle.std.proofs.Common.{◌≡◌, map, take}
use Rattle.result_origin.specs.Items.{part_of}
use Rattle.result_origin.proofs.items.Fragment.copy.Given as goal

-- the items so far are copied
abbrev pub invariant-loop-item : goal.invariant-loop-item
invariant-loop-item l = l.same ≡ map part_of (take l.item-index l.item-items)
