use Rattle.std.proofs.Common.{◌≡◌, ◌-◌, ◌≤◌, ◌++◌, length, drop}
use Rattle.std.specs.List.{AllByRecursion}
use Rattle.std.specs.Str.{IsCharBoundary}
use Rattle.xpath_tokens.specs.Tokens.{tokens_from, tokens_of, IsCut}
use Rattle.xpath_tokens.proofs.tokens.tokens_of.Given as goal

abbrev pub invariant-loop-at : goal.invariant-loop-at
invariant-loop-at l = record {
  within : l.at ≤ length l.text;
  left : l.tokens ++ tokens_from 0 l.behind l.at (drop l.at l.text) ≡ tokens_of l.text;
  cut : IsCharBoundary l.text l.at;
  tokens_cut : AllByRecursion (IsCut l.text) l.tokens;
}

abbrev pub decreases-loop-at : goal.decreases-loop-at
decreases-loop-at l = length l.text - l.at
