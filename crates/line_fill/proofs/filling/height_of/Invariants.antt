use Rattle.std.proofs.Common.{◌≡◌, take}
use Rattle.line_fill.specs.Lines.{height_of}
use Rattle.line_fill.proofs.filling.height_of.Given as goal

-- the height for the parts so far
abbrev pub invariant-loop-part : goal.invariant-loop-part
invariant-loop-part l = l.height ≡ height_of l.least (take l.part-index l.parts)
