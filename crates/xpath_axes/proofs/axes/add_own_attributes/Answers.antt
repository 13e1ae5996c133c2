use Rattle.std.proofs.Common.{◌++◌, List, sym, ap, subst, ◌∙◌}
use Rattle.std.proofs.lemmas.Result.{on_ok_weaker}
use Rattle.serna_kinds.specs.declared.cells.NodeRef.{NodeRef}
use Rattle.serna_kinds.specs.declared.cells.AttrPair.{AttrPair}
use Rattle.serna_kinds.specs.declared.expressions.Axis.{Axis}
use Rattle.serna_kinds.specs.declared.expressions.Axis.TheVariants as axis
use Rattle.source_model.specs.Named.{AreKnown}
use Rattle.xpath_axes.specs.Taken.{taken_attributes, attributes_on}
use Rattle.xpath_axes.specs.Allowed.{MayOwn}
use Rattle.xpath_axes.proofs.Attributes.{pairs-grown, pairs_known, pair_names}
use Rattle.xpath_axes.proofs.axes.add_own_attributes.Goals as goal

pub returns-in_err-pairs-in-Attribute-clause-within : goal.returns-in_err-pairs-in-Attribute-clause-within
returns-in_err-pairs-in-Attribute-clause-within g c allowed may old =
    c.attributes_of.ensures.within allowed (subst (λ (a : Axis). MayOwn allowed a c.args.node) c.in-Attribute.is may).0 old

pub returns-in_ok-pairs-in-Attribute-clause-within : goal.returns-in_ok-pairs-in-Attribute-clause-within
returns-in_ok-pairs-in-Attribute-clause-within g c allowed may old =
    c.attributes_of.ensures.within allowed (subst (λ (a : Axis). MayOwn allowed a c.args.node) c.in-Attribute.is may).0 old

pub returns-in_ok-pairs-in-Attribute-clause-value : goal.returns-in_ok-pairs-in-Attribute-clause-value
returns-in_ok-pairs-in-Attribute-clause-value g c =
    on_ok_weaker c.add_attributes.result
    (λ added table source sees has.
    let here = c.in_ok-pairs-in-Attribute.ensures.value source sees.agrees in
    let home = c.in_ok-pairs-in-Attribute.ensures.value sees.home sees.home_agrees in
    let known = subst (λ (pairs : List AttrPair). AreKnown c.args.names.now (pair_names pairs)) (sym home) (pairs_known c.args.names.now sees.home c.args.node sees.home_proper) in
    added
    ∙ ap (λ (l : List NodeRef). c.args.out.now ++ l)
    (pairs-grown c.args.names.now table axis.Attribute c.args.test.now c.args.node c.in_ok-pairs-in-Attribute.pairs.now sees.grows has known
    ∙ ap (taken_attributes table axis.Attribute c.args.test.now c.args.node) here
    ∙ ap (λ (a : Axis). attributes_on table a c.args.test.now source c.args.node) (sym c.in-Attribute.is)))
    c.add_attributes.ensures
