use Rattle.std.proofs.Common.{eqb, rules}
use borrow.Author.Tests.{tests}
use Rattle.std.proofs.lemmas.Iterator.Search.{position_from_yields_List}
use Rattle.std.proofs.lemmas.Iterator.Consumers.{YieldsList-from_first}
use Rattle.linked_tree.proofs.KidLemmas.{place_told}
use Rattle.linked_tree.proofs.arena.Arena.position.Goals as goal

pub returns : goal.returns
returns c =
    place_told c.args.self.now c.args.parent c.args.kid c.position.result c.kids.ensures.forest c.requires.parent
    (position_from_yields_List (λ x. eqb x c.args.kid) _ _ c.position.result c.position.ensures.ran
    (YieldsList-from_first (λ kid. kid) (λ left. left) _ c.kids.ensures.kids) (λ x b q k. search (rules, tests)))
