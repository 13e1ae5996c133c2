use Rattle.std.proofs.Common.{eqb, rules}
use borrow.Author.Tests.{tests}
use Rattle.std.proofs.lemmas.Iterator.Search.{any_from_yields_List}
use Rattle.std.proofs.lemmas.Iterator.Consumers.{YieldsList-from_first}
use Rattle.linked_tree.proofs.arena.Arena.is_behind.Goals as goal

pub returns : goal.returns
returns c =
    any_from_yields_List (λ x. eqb x c.args.other) _ _ _ c.any.ensures.ran
    (YieldsList-from_first (λ kid. kid) (λ left. left) _ c.from.ensures) (λ x b q k. search (rules, tests))
