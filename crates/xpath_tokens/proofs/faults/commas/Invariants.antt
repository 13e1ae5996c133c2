use Rattle.std.proofs.Common.{◌≡◌, ◌≤◌, ◌+◌, length}
use Rattle.xpath_tokens.specs.Faults.{commas}
use Rattle.xpath_tokens.proofs.faults.commas.Given as goal

abbrev pub invariant-loop-token : goal.invariant-loop-token
invariant-loop-token l = record {
  same : commas l.depth l.count l.rest ≡ commas 0 0 l.tokens;
  few : l.depth + l.count + length l.rest ≤ length l.tokens;
}

abbrev pub decreases-loop-token : goal.decreases-loop-token
decreases-loop-token l = length l.rest
