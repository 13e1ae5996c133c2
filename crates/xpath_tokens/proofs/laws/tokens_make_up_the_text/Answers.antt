use Rattle.xpath_tokens.proofs.Spelled.{make_up}
use Rattle.xpath_tokens.proofs.laws.tokens_make_up_the_text.Goals as goal

pub returns : goal.returns
returns c = make_up
