use Rattle.std.proofs.Common.{◌≡◌, take}
use Rattle.result_origin.proofs.pages.Line.copy.Given as goal

-- the parts so far are copied
abbrev pub invariant-loop-part : goal.invariant-loop-part
invariant-loop-part l = l.parts ≡ take l.part-index l.part-items
