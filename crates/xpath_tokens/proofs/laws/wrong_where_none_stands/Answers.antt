-- Where a token can stand the front of what is left is not Wrong.
use Rattle.xpath_tokens.proofs.Longest.{all_in_need}
use Rattle.xpath_tokens.proofs.laws.wrong_where_none_stands.Goals as goal

pub returns : goal.returns
returns c = all_in_need
