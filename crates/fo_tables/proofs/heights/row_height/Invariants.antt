use Rattle.std.proofs.Common.{◌≡◌, take, map}
use Rattle.fo_tables.specs.Heights.{greatest}
use Rattle.fo_tables.specs.Needs.{still_needed}
use Rattle.fo_tables.proofs.heights.row_height.Given as goal

-- the height for the cells so far
abbrev pub invariant-loop-need : goal.invariant-loop-need
invariant-loop-need l = l.height ≡ greatest (map (still_needed l.earlier) (take l.need-index l.needs))
