use Rattle.std.proofs.Common.{◌≡◌, ◌+◌, drop}
use Rattle.source_model.specs.Attributes.{place_among}
use Rattle.source_steps.proofs.attributes.place_of.Given as goal

abbrev pub invariant-pairs : goal.invariant-pairs
invariant-pairs l = place_among l.name l.pairs ≡ l.place + place_among l.name (drop l.place l.pairs)
