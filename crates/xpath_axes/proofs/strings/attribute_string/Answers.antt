use Rattle.std.proofs.Common.{◌∙◌, Some, None}
use Rattle.xpath_axes.proofs.StringLemmas.{string_attribute, ok_weaker}
use Rattle.xpath_axes.proofs.strings.attribute_string.Goals as goal

pub returns-in-Some-clause-value : goal.returns-in-Some-clause-value
returns-in-Some-clause-value g c =
    ok_weaker c.copy.result
    (λ text same source agrees.
    same ∙ string_attribute source c.args.node c.args.name c.in_ok-pairs.pairs.now (Some c.in-Some.value.now) c.in-Some.ensures (c.in_ok-pairs.ensures.value source agrees))
    c.copy.ensures

pub returns-in-None-clause-value : goal.returns-in-None-clause-value
returns-in-None-clause-value g c =
    ok_weaker c.new.result
    (λ text same source agrees. same ∙ string_attribute source c.args.node c.args.name c.in_ok-pairs.pairs.now None c.in-None.ensures (c.in_ok-pairs.ensures.value source agrees))
    c.new.ensures
