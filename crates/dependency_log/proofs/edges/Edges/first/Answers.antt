use Rattle.std.proofs.Common.{◌≡◌, None, sym, ap, ◌∙◌, rules}
use Rattle.index_lists.specs.Lists.{first_of}
use Rattle.index_lists.specs.Threads.{left_list}
use Rattle.dependency_log.proofs.EdgeLemmas.{unnumbered_left, number_found, number_none}
use Rattle.dependency_log.proofs.edges.Edges.first.Goals as goal

pub returns-in_err-left-clause-first : goal.returns-in_err-left-clause-first
returns-in_err-left-clause-first c =
    let past = number_none c.args.cell c.args.self.now.cells.keys c.get_index_of.result c.get_index_of.ensures.index c.in_err-left.was in
    let none : c.from_residual.result ≡ None = search rules in
    none ∙ sym (ap first_of (unnumbered_left c.args.self.now _ c.requires past))

pub returns-clause-first : goal.returns-clause-first
returns-clause-first c =
    let at = number_found c.args.cell c.args.self.now.cells.keys c.get_index_of.result c.in_ok-left.left c.get_index_of.ensures.index c.in_ok-left.was in
    c.first_left.ensures.first ∙ ap (λ n. first_of (left_list c.args.self.now.threads n)) (sym at.1)
