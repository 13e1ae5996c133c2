use Rattle.std.proofs.Common.{◌≡◌, take}
use Rattle.serna_kinds.proofs.names.Spaces.copy.Given as goal

-- the declarations that were passed are those of the copy
abbrev pub invariant-loop-declaration : goal.invariant-loop-declaration
invariant-loop-declaration l = l.copy ≡ take l.declaration-index l.declaration-items
