-- Each clause is a lemma on `with_cell`, at the log after the insert.
use Rattle.std.proofs.Common.{ap, sym, subst}
use Rattle.serna_kinds.specs.Tape.{Agrees, SeenBefore, Within}
use Rattle.serna_kinds.proofs.TapeLemmas.{with_cell-inserted, Agrees-with_cell, SeenBefore-with_cell, Within-with_cell}
use Rattle.serna_kinds.proofs.tape.Tape.read.Goals as goal

pub returns-clause-before : goal.returns-clause-before
returns-clause-before g c =
    let logged = with_cell-inserted _ _ _ c.args.cell c.in_ok-insert.ensures.keys (ap (λ t. t.cells) c.self.view_is) in
    let map = g.V.SourceView.cells c.args.view.now in
    subst (λ log. SeenBefore c.args.self.now.cells log map) (sym logged) (SeenBefore-with_cell c.args.self.now.cells c.args.cell map)

pub returns-clause-agrees : goal.returns-clause-agrees
returns-clause-agrees g c other agrees =
    let logged = with_cell-inserted _ _ _ c.args.cell c.in_ok-insert.ensures.keys (ap (λ t. t.cells) c.self.view_is) in
    let map = g.V.SourceView.cells c.args.view.now in
    Agrees-with_cell c.args.self.now.cells c.args.cell map other (subst (λ log. Agrees log map other) logged agrees)

pub returns-clause-within : goal.returns-clause-within
returns-clause-within g c allowed within meets =
    let logged = with_cell-inserted _ _ _ c.args.cell c.in_ok-insert.ensures.keys (ap (λ t. t.cells) c.self.view_is) in
    subst (Within allowed) (sym logged) (Within-with_cell allowed c.args.self.now.cells c.args.cell within meets)
