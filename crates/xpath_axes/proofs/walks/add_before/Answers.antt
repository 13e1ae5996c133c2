use Rattle.std.proofs.Common.{◌++◌, List, reverse, ap, subst, sym, ◌∙◌}
use Rattle.std.proofs.lemmas.Result.{on_ok_weaker}
use Rattle.serna_kinds.specs.declared.cells.NodeName.{NodeName}
use Rattle.serna_kinds.specs.declared.cells.Facet.TheVariants as facet
use Rattle.source_model.specs.Cells.{cell_of}
use Rattle.xpath_axes.specs.Walks.{levels, before, below}
use Rattle.xpath_axes.specs.Allowed.{MayRead}
use Rattle.xpath_axes.proofs.MayLemmas.{kids_both}
use Rattle.xpath_axes.proofs.walks.add_before.Goals as goal

pub returns-in_err-kids-clause-within : goal.returns-in_err-kids-clause-within
returns-in_err-kids-clause-within g c allowed source agrees may old = c.children_of.ensures.within allowed may.0 old

pub returns-in_err-add_below-clause-before : goal.returns-in_err-add_below-clause-before
returns-in_err-add_below-clause-before g c other agrees = c.children_of.ensures.before other (c.add_below.ensures.before other agrees)

pub returns-in_err-add_below-clause-within : goal.returns-in_err-add_below-clause-within
returns-in_err-add_below-clause-within g c allowed source agrees may old =
    let earlier = c.add_below.ensures.before (cell_of source) agrees in
    let kids = kids_both source c.args.parent c.in_ok-kids.kids.now (λ spot at. c.in_ok-kids.ensures.value source spot earlier at) (λ gone. c.in_ok-kids.ensures.absent source earlier gone) in
    c.add_below.ensures.within allowed source agrees (subst (λ (l : List NodeName). MayRead allowed facet.Kids (below source levels l)) (sym (c.before-2.ensures ∙ ap (before c.args.node) kids)) may.1)
    (c.children_of.ensures.within allowed may.0 old)

pub returns-clause-before : goal.returns-clause-before
returns-clause-before g c other agrees = c.children_of.ensures.before other (c.add_below.ensures.before other agrees)

pub returns-clause-value : goal.returns-clause-value
returns-clause-value g c =
    on_ok_weaker c.add_reversed.result
    (λ added source agrees.
    let earlier = c.add_below.ensures.before (cell_of source) agrees in
    let kids = kids_both source c.args.parent c.in_ok-kids.kids.now (λ spot at. c.in_ok-kids.ensures.value source spot earlier at) (λ gone. c.in_ok-kids.ensures.absent source earlier gone) in
    added
    ∙ ap (λ (l : List NodeName). c.args.out.now ++ reverse l)
    (c.as_slice.ensures ∙ c.in_ok-add_below.ensures.value source agrees ∙ ap (λ (l : List NodeName). l ++ below source levels c.before-2.result.now) c.new-found.ensures
    ∙ ap (below source levels) (c.before-2.ensures ∙ ap (before c.args.node) kids)))
    c.add_reversed.ensures

pub returns-clause-within : goal.returns-clause-within
returns-clause-within g c allowed source agrees may old =
    let earlier = c.add_below.ensures.before (cell_of source) agrees in
    let kids = kids_both source c.args.parent c.in_ok-kids.kids.now (λ spot at. c.in_ok-kids.ensures.value source spot earlier at) (λ gone. c.in_ok-kids.ensures.absent source earlier gone) in
    c.add_below.ensures.within allowed source agrees (subst (λ (l : List NodeName). MayRead allowed facet.Kids (below source levels l)) (sym (c.before-2.ensures ∙ ap (before c.args.node) kids)) may.1)
    (c.children_of.ensures.within allowed may.0 old)
