use Rattle.std.proofs.Common.{◌≡◌, take}
use Rattle.result_origin.proofs.pages.Page.copy.Given as goal

-- the lines so far are copied
abbrev pub invariant-loop-line : goal.invariant-loop-line
invariant-loop-line l = l.lines ≡ take l.line-index l.line-items
