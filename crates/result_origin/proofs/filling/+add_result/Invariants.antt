use Rattle.std.proofs.Common.{◌≡◌, ◌-◌, ◌++◌, map, drop}
use Rattle.std.specs.List.{AllByRecursion}
use Rattle.result_origin.specs.Parts.{filled, said}
use Rattle.result_origin.specs.Items.{part_of}
use Rattle.result_origin.specs.Stored.{kept}
use Rattle.result_origin.specs.Assembled.{resolved, HoleEnds, Ends}
use Rattle.result_origin.proofs.filling.+add_result.Given as goal

abbrev pub decreases-add_result : goal.decreases-add_result
decreases-add_result l = l.levels

-- what was added, with what is left to add, is all; and the holes that are left end
abbrev pub invariant-loop-item : goal.invariant-loop-item
invariant-loop-item l = record {
  said : l.whole ++ said (filled (resolved (kept l.fragments.stored) (l.levels - 1)) (map part_of (drop l.item-index l.item-items)))
      ≡ l.fn.whole ++ said (resolved (kept l.fragments.stored) l.levels l.id);
  ends : AllByRecursion (HoleEnds (Ends (kept l.fragments.stored) (l.levels - 1))) (map part_of (drop l.item-index l.item-items));
}
