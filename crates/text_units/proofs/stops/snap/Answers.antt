use Rattle.std.proofs.Common.{refl}
use Rattle.text_units.proofs.StopLemmas.{IsSnapped-boundary, IsSnapped-next_or_here, snap-is}
use Rattle.text_units.proofs.stops.snap.Goals as goal

pub returns-clause-nearest : goal.returns-clause-nearest
returns-clause-nearest c =
    rw c.unwrap_or.ensures
    (IsSnapped-next_or_here c.args.text.now c.args.at c.next_stop.result c.utf8.text (λ b. let yes = c.if-is_boundary.ensures.1 b in cc)
    c.next_stop.ensures.end.0 c.next_stop.ensures.nearest)

pub returns-then-is_boundary-clause-value : goal.returns-then-is_boundary-clause-value
returns-then-is_boundary-clause-value c =
    let text = c.args.text.now in
    snap-is text c.args.at c.args.at c.utf8.text c.requires.0 (IsSnapped-boundary text c.args.at (c.if-is_boundary.ensures.0 refl))

pub returns-clause-value : goal.returns-clause-value
returns-clause-value c = snap-is c.args.text.now c.args.at c.unwrap_or.result c.utf8.text c.requires.0 (returns-clause-nearest c)
