use Rattle.std.proofs.Common.{subst}
use Rattle.serna_kinds.specs.declared.expressions.Axis.{Axis}
use Rattle.xpath_axes.specs.Allowed.{MayLeave}
use Rattle.xpath_axes.proofs.attribute_axes.add_nodes_from.Goals as goal

pub returns-in-Ancestor-clause-within : goal.returns-in-Ancestor-clause-within
returns-in-Ancestor-clause-within g c allowed source agrees may old =
    c.add_with_outward.ensures.within allowed source agrees (subst (λ (a : Axis). MayLeave allowed a source c.args.node) c.in-Ancestor.is may) old

pub returns-in-AncestorOrSelf-clause-within : goal.returns-in-AncestorOrSelf-clause-within
returns-in-AncestorOrSelf-clause-within g c allowed source agrees may old =
    c.add_with_outward-in-AncestorOrSelf.ensures.within allowed source agrees (subst (λ (a : Axis). MayLeave allowed a source c.args.node) c.in-AncestorOrSelf.is may) old

pub returns-in-Following-clause-within : goal.returns-in-Following-clause-within
returns-in-Following-clause-within g c allowed source agrees may old =
    c.add_all_behind.ensures.within allowed source agrees (subst (λ (a : Axis). MayLeave allowed a source c.args.node) c.in-Following.is may) old

pub returns-in-Preceding-clause-within : goal.returns-in-Preceding-clause-within
returns-in-Preceding-clause-within g c allowed source agrees may old =
    c.add_outward.ensures.within allowed source agrees (subst (λ (a : Axis). MayLeave allowed a source c.args.node) c.in-Preceding.is may) old
