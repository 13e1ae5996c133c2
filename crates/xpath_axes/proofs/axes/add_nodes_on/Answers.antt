use Rattle.std.proofs.Common.{subst}
use Rattle.serna_kinds.specs.declared.expressions.Axis.{Axis}
use Rattle.xpath_axes.specs.Allowed.{MayGo}
use Rattle.xpath_axes.proofs.axes.add_nodes_on.Goals as goal

pub returns-in-Child-clause-within : goal.returns-in-Child-clause-within
returns-in-Child-clause-within g c allowed source agrees may old =
    c.add_children.ensures.within allowed (subst (λ (a : Axis). MayGo allowed a source c.args.node) c.in-Child.is may) old

pub returns-in-Descendant-clause-within : goal.returns-in-Descendant-clause-within
returns-in-Descendant-clause-within g c allowed source agrees may old =
    c.add_descendants.ensures.within allowed source agrees (subst (λ (a : Axis). MayGo allowed a source c.args.node) c.in-Descendant.is may) old

pub returns-in-DescendantOrSelf-clause-within : goal.returns-in-DescendantOrSelf-clause-within
returns-in-DescendantOrSelf-clause-within g c allowed source agrees may old =
    c.add_with_descendants.ensures.within allowed source agrees (subst (λ (a : Axis). MayGo allowed a source c.args.node) c.in-DescendantOrSelf.is may) old

pub returns-in-Parent-clause-within : goal.returns-in-Parent-clause-within
returns-in-Parent-clause-within g c allowed source agrees may old =
    c.add_outward.ensures.within allowed source agrees (subst (λ (a : Axis). MayGo allowed a source c.args.node) c.in-Parent.is may) old

pub returns-in-Ancestor-clause-within : goal.returns-in-Ancestor-clause-within
returns-in-Ancestor-clause-within g c allowed source agrees may old =
    c.add_outward-in-Ancestor.ensures.within allowed source agrees (subst (λ (a : Axis). MayGo allowed a source c.args.node) c.in-Ancestor.is may) old

pub returns-in-AncestorOrSelf-clause-within : goal.returns-in-AncestorOrSelf-clause-within
returns-in-AncestorOrSelf-clause-within g c allowed source agrees may old =
    c.add_with_outward.ensures.within allowed source agrees (subst (λ (a : Axis). MayGo allowed a source c.args.node) c.in-AncestorOrSelf.is may) old

pub returns-in-FollowingSibling-clause-within : goal.returns-in-FollowingSibling-clause-within
returns-in-FollowingSibling-clause-within g c allowed source agrees may old =
    c.add_outward-in-FollowingSibling.ensures.within allowed source agrees (subst (λ (a : Axis). MayGo allowed a source c.args.node) c.in-FollowingSibling.is may) old

pub returns-in-PrecedingSibling-clause-within : goal.returns-in-PrecedingSibling-clause-within
returns-in-PrecedingSibling-clause-within g c allowed source agrees may old =
    c.add_outward-in-PrecedingSibling.ensures.within allowed source agrees (subst (λ (a : Axis). MayGo allowed a source c.args.node) c.in-PrecedingSibling.is may) old

pub returns-in-Following-clause-within : goal.returns-in-Following-clause-within
returns-in-Following-clause-within g c allowed source agrees may old =
    c.add_outward-in-Following.ensures.within allowed source agrees (subst (λ (a : Axis). MayGo allowed a source c.args.node) c.in-Following.is may) old

pub returns-in-Preceding-clause-within : goal.returns-in-Preceding-clause-within
returns-in-Preceding-clause-within g c allowed source agrees may old =
    c.add_outward-in-Preceding.ensures.within allowed source agrees (subst (λ (a : Axis). MayGo allowed a source c.args.node) c.in-Preceding.is may) old
