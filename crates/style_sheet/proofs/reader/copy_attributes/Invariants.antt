-- The attributes so far are copied.
use Rattle.std.proofs.Common.{◌≡◌, take}
use Rattle.style_sheet.proofs.reader.copy_attributes.Given as goal

abbrev pub invariant-loop-pair : goal.invariant-loop-pair
invariant-loop-pair l = l.same ≡ take l.pair-index l.attributes
