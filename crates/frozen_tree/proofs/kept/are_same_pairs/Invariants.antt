use Rattle.std.proofs.Common.{◌≡◌, take}
use Rattle.frozen_tree.proofs.kept.are_same_pairs.Given as goal

abbrev pub invariant-pairs : goal.invariant-pairs
invariant-pairs l = take l.place l.one ≡ take l.place l.other
