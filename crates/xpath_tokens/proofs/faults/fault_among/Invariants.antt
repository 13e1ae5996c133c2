use Rattle.std.proofs.Common.{◌≡◌, length}
use Rattle.std.specs.List.{AllByRecursion}
use Rattle.xpath_tokens.specs.Tokens.{IsCut}
use Rattle.xpath_tokens.specs.Faults.{fault_among}
use Rattle.xpath_tokens.proofs.faults.fault_among.Given as goal

abbrev pub invariant-loop-token : goal.invariant-loop-token
invariant-loop-token l = record {
  same : fault_among l.as_what l.spaces l.text l.rest ≡ fault_among l.as_what l.spaces l.text l.tokens;
  cut : AllByRecursion (IsCut l.text) l.rest;
}

abbrev pub decreases-loop-token : goal.decreases-loop-token
decreases-loop-token l = length l.rest
