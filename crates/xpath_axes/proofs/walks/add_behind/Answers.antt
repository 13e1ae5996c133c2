use Rattle.std.proofs.Common.{◌++◌, List, ap, subst, sym, ◌∙◌}
use Rattle.std.proofs.lemmas.Result.{on_ok_weaker}
use Rattle.serna_kinds.specs.declared.cells.NodeName.{NodeName}
use Rattle.serna_kinds.specs.declared.cells.Facet.TheVariants as facet
use Rattle.source_model.specs.Cells.{cell_of}
use Rattle.xpath_axes.specs.Walks.{levels, after, below}
use Rattle.xpath_axes.specs.Allowed.{MayRead}
use Rattle.xpath_axes.proofs.MayLemmas.{kids_both}
use Rattle.xpath_axes.proofs.walks.add_behind.Goals as goal

pub returns-in_err-kids-clause-within : goal.returns-in_err-kids-clause-within
returns-in_err-kids-clause-within g c allowed source agrees may old = c.children_of.ensures.within allowed may.0 old

pub returns-clause-before : goal.returns-clause-before
returns-clause-before g c other agrees = c.children_of.ensures.before other (c.add_below.ensures.before other agrees)

pub returns-clause-value : goal.returns-clause-value
returns-clause-value g c =
    on_ok_weaker c.add_below.result
    (λ added source agrees.
    let earlier = c.add_below.ensures.before (cell_of source) agrees in
    let kids = kids_both source c.args.parent c.in_ok-kids.kids.now (λ spot at. c.in_ok-kids.ensures.value source spot earlier at) (λ gone. c.in_ok-kids.ensures.absent source earlier gone) in
    added source agrees ∙ ap (λ (l : List NodeName). c.args.out.now ++ below source levels l) (c.after.ensures ∙ ap (after c.args.node) kids))
    c.add_below.ensures.value

pub returns-clause-within : goal.returns-clause-within
returns-clause-within g c allowed source agrees may old =
    let earlier = c.add_below.ensures.before (cell_of source) agrees in
    let kids = kids_both source c.args.parent c.in_ok-kids.kids.now (λ spot at. c.in_ok-kids.ensures.value source spot earlier at) (λ gone. c.in_ok-kids.ensures.absent source earlier gone) in
    c.add_below.ensures.within allowed source agrees (subst (λ (l : List NodeName). MayRead allowed facet.Kids (below source levels l)) (sym (c.after.ensures ∙ ap (after c.args.node) kids)) may.1)
    (c.children_of.ensures.within allowed may.0 old)
