-- The front of what is left is as long as any token that is spelled there.
use Rattle.xpath_tokens.proofs.Longest.{all_longest}
use Rattle.xpath_tokens.proofs.laws.tokens_are_longest.Goals as goal

pub returns : goal.returns
returns c = all_longest
