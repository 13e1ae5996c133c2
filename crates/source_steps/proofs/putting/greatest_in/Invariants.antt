use Rattle.std.proofs.Common.{◌≡◌, drop}
use Rattle.std.specs.Prelude.{max}
use Rattle.source_steps.specs.Putting.{greatest_among}
use Rattle.source_steps.proofs.putting.greatest_in.Given as goal

abbrev pub invariant-items : goal.invariant-items
invariant-items l = max l.greatest (greatest_among (drop l.item-index l.items)) ≡ greatest_among l.items
