use Rattle.std.proofs.Common.{◌≡◌, ◌≢◌, None, sym, ◌∙◌, rules}
use Rattle.index_lists.proofs.Clearing.{first_none}
use Rattle.linked_tree.specs.Forest.{kids_of}
use Rattle.linked_tree.proofs.WayLemmas.{leaf_apart}
use Rattle.linked_tree.proofs.tests.expect_free.Goals as goal

pub returns-clause-apart : goal.returns-clause-apart
returns-clause-apart g c =
    let none : c.first.result ≡ None = search rules in
    let apart : c.args.node ≢ c.args.parent = search rules in
    leaf_apart c.args.arena.now c.args.node c.args.parent c.first.ensures.forest
    (first_none (kids_of c.args.arena.now c.args.node) (sym c.first.ensures.first ∙ none)) apart
