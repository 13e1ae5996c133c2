use Rattle.std.proofs.Common.{subst}
use Rattle.serna_kinds.specs.declared.expressions.Axis.{Axis}
use Rattle.xpath_axes.specs.Allowed.{MayStep}
use Rattle.xpath_axes.proofs.walks.add_step.Goals as goal

pub returns-in-FollowingSibling-clause-within : goal.returns-in-FollowingSibling-clause-within
returns-in-FollowingSibling-clause-within g c allowed source agrees may old =
    c.add_siblings_behind.ensures.within allowed (subst (λ (a : Axis). MayStep allowed a source c.args.node c.args.parent) c.in-FollowingSibling.is may) old

pub returns-in-PrecedingSibling-clause-within : goal.returns-in-PrecedingSibling-clause-within
returns-in-PrecedingSibling-clause-within g c allowed source agrees may old =
    c.add_siblings_before.ensures.within allowed (subst (λ (a : Axis). MayStep allowed a source c.args.node c.args.parent) c.in-PrecedingSibling.is may) old

pub returns-in-Following-clause-within : goal.returns-in-Following-clause-within
returns-in-Following-clause-within g c allowed source agrees may old =
    c.add_behind.ensures.within allowed source agrees (subst (λ (a : Axis). MayStep allowed a source c.args.node c.args.parent) c.in-Following.is may) old

pub returns-in-Preceding-clause-within : goal.returns-in-Preceding-clause-within
returns-in-Preceding-clause-within g c allowed source agrees may old =
    c.add_before.ensures.within allowed source agrees (subst (λ (a : Axis). MayStep allowed a source c.args.node c.args.parent) c.in-Preceding.is may) old
