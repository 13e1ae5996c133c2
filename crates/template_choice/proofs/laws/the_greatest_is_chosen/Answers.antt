use Rattle.template_choice.proofs.Choosing.{chosen_is_greatest, built_in_none_fits, one_greatest}
use Rattle.template_choice.proofs.laws.the_greatest_is_chosen.Goals as goal

pub returns-clause-rule : goal.returns-clause-rule
returns-clause-rule c = chosen_is_greatest

pub returns-clause-built_in : goal.returns-clause-built_in
returns-clause-built_in c = built_in_none_fits

pub returns-clause-only : goal.returns-clause-only
returns-clause-only c = one_greatest
