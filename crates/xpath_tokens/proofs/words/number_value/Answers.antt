use Rattle.std.proofs.Common.{◌∙◌, sym, arith}
use Rattle.xpath_tokens.proofs.WordLemmas.{number_read}
use Rattle.xpath_tokens.proofs.words.number_value.Goals as goal

pub returns-then-digits-le15 : goal.returns-then-digits-le15
returns-then-digits-le15 c =
    c.unwrap_or.ensures ∙ number_read c.args.digits.now c.parse.result c.parse.ensures.value.0 (sym c.are_digits.ensures ∙ c.if-are_digits.true) (omega arith)
