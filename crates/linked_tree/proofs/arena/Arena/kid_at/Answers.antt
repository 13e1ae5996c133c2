use Rattle.std.proofs.Common.{sym, ◌∙◌}
use Rattle.std.proofs.lemmas.Iterator.Consumers.{nth_from_yields_List, YieldsList-from_first}
use Rattle.linked_tree.proofs.KidLemmas.{option_itself}
use Rattle.linked_tree.proofs.arena.Arena.kid_at.Goals as goal

pub returns-clause-kid : goal.returns-clause-kid
returns-clause-kid c =
    sym (option_itself c.nth.result) ∙ nth_from_yields_List c.nth.result c.nth.new.self c.args.place c.nth.ensures.ran
    (YieldsList-from_first (λ kid. kid) (λ left. left) _ c.kids.ensures.kids)
