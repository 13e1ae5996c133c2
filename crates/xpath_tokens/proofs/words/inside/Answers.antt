use Rattle.xpath_tokens.proofs.WordLemmas.{nothing_inside}
use Rattle.xpath_tokens.proofs.words.inside.Goals as goal

pub returns-in-None-strip_prefix : goal.returns-in-None-strip_prefix
unfolding lib.Utf8.encode
returns-in-None-strip_prefix c = nothing_inside c.args.literal.now c.in-None.ensures.cases c.in-None-strip_prefix.ensures.cases
