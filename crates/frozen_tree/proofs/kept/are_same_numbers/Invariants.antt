use Rattle.std.proofs.Common.{◌≡◌, take}
use Rattle.frozen_tree.proofs.kept.are_same_numbers.Given as goal

abbrev pub invariant-numbers : goal.invariant-numbers
invariant-numbers l = take l.place l.one ≡ take l.place l.other
