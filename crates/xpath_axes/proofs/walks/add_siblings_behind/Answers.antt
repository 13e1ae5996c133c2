use Rattle.xpath_axes.proofs.walks.add_siblings_behind.Goals as goal

pub returns-in_err-kids-clause-within : goal.returns-in_err-kids-clause-within
returns-in_err-kids-clause-within g c allowed may old = c.children_of.ensures.within allowed may.0 old

pub returns-clause-within : goal.returns-clause-within
returns-clause-within g c allowed may old = c.children_of.ensures.within allowed may.0 old
