use Rattle.std.proofs.Common.{◌++◌, Option, sym, ap, ◌∙◌}
use Rattle.std.proofs.lemmas.List.{append-nil}
use Rattle.source_model.specs.Paths.{Path}
use Rattle.xpath_axes.specs.Ordered.{placed_by}
use Rattle.xpath_axes.proofs.order.add_placed.Goals as goal

pub returns-in_ok-push-in-Some-clause-value : goal.returns-in_ok-push-in-Some-clause-value
returns-in_ok-push-in-Some-clause-value g c table source proper agrees =
    c.in_ok-push-in-Some.ensures.items
    ∙ ap (λ (o : Option Path). c.args.out.now.items ++ placed_by c.args.node o) (sym c.in-Some.is ∙ c.in_ok-path.ensures.value table source proper agrees)

pub returns-in-None-clause-value : goal.returns-in-None-clause-value
returns-in-None-clause-value g c table source proper agrees =
    sym (append-nil c.args.out.now.items)
    ∙ ap (λ (o : Option Path). c.args.out.now.items ++ placed_by c.args.node o) (sym c.in-None.is ∙ c.in_ok-path.ensures.value table source proper agrees)
