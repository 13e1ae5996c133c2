use Rattle.std.proofs.Common.{◌≡◌, ◌-◌, take}
use Rattle.std.specs.List.{sum}
use Rattle.fo_tables.proofs.heights.Need.beyond.Given as goal

-- the rows so far have taken their part
abbrev pub invariant-loop-height : goal.invariant-loop-height
invariant-loop-height l = l.left ≡ l.fn.self.height - sum (take l.height-index l.height-items)
