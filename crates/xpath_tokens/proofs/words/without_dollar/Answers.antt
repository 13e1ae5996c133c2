use Rattle.xpath_tokens.proofs.WordLemmas.{no_dollar}
use Rattle.xpath_tokens.proofs.words.without_dollar.Goals as goal

pub returns-in-None : goal.returns-in-None
unfolding lib.Utf8.encode
returns-in-None c = no_dollar c.args.variable.now c.in-None.ensures.cases
