use Rattle.std.proofs.Common.{◌∙◌, sym, ap}
use Rattle.std.specs.Option.{option_map}
use Rattle.template_run.specs.Instances.{context_of, body_parts, rule_parts}
use Rattle.template_run.proofs.BodyLemmas.{grown_whole}
use Rattle.template_run.proofs.body.Site.rule.Goals as goal

pub returns-in_ok-add_body-in-Some-clause-value : goal.returns-in_ok-add_body-in-Some-clause-value
returns-in_ok-add_body-in-Some-clause-value g c table source request other agrees knows is =
    grown_whole c.new-result.result c.add_body.new.out (body_parts table source c.args.number (context_of c.args.number request other) c.in-Some.body.now) c.args.number c.new-result.ensures
    (c.in_ok-add_body-in-Some.ensures.value table source (context_of c.args.number request other) agrees knows is)
    ∙ ap (rule_parts table source c.args.number request other) (sym (ap (option_map (λ body. body.now)) c.in-Some.is) ∙ c.body_at.ensures)
