use Rattle.std.proofs.Common.{◌≡◌, map, length}
use Rattle.result_origin.specs.Parts.{marks_in}
use Rattle.result_origin.specs.Items.{part_of}
use Rattle.simple_pages.proofs.pages.within_root.Given as goal

-- what is gone past says nothing
abbrev pub invariant-loop-rest : goal.invariant-loop-rest
invariant-loop-rest l = marks_in (map part_of l.rest) ≡ marks_in (map part_of l.items)

abbrev pub decreases-loop-rest : goal.decreases-loop-rest
decreases-loop-rest l = length l.rest
