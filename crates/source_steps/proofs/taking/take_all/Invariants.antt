use Rattle.std.proofs.Common.{◌≡◌, ◌++◌, drop}
use Rattle.source_steps.specs.CellChanges.{takes}
use Rattle.source_steps.proofs.taking.take_all.Given as goal

abbrev pub invariant-items : goal.invariant-items
invariant-items l = l.changes ++ takes (drop l.item-index l.items) ≡ l.initial.changes ++ takes l.items
