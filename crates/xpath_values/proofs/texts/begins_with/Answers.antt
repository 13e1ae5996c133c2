use Rattle.std.proofs.Common.{◌∙◌}
use Rattle.std.proofs.lemmas.Str.Pattern.{starts_text}
use Rattle.xpath_values.proofs.Places.{begins_same}
use Rattle.xpath_values.proofs.texts.begins_with.Goals as goal

pub returns : goal.returns
returns c =
    starts_text c.starts_with.result c.args.prefix.now c.args.text.now c.starts_with.ensures.cases ∙ begins_same c.args.text.now c.args.prefix.now c.utf8.text c.utf8.prefix
