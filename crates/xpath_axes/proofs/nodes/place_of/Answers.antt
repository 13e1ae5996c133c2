use Rattle.std.proofs.Common.{◌∙◌, rules, tests}
use Rattle.std.proofs.lemmas.Iterator.{YieldsList-from_slice}
use Rattle.std.proofs.lemmas.Iterator.Search.{position_from_yields_List}
use Rattle.source_model.specs.Attributes.{has_name}
use Rattle.xpath_axes.proofs.NodeLemmas.{place_is}
use Rattle.xpath_axes.proofs.nodes.place_of.Goals as goal

pub returns : goal.returns
returns c =
    position_from_yields_List (has_name c.args.name) _ _ c.position.result c.position.ensures.ran (YieldsList-from_slice c.args.pairs.now cc) (λ x b q k. search (rules, tests))
    ∙ place_is c.args.name c.args.pairs.now
