use Rattle.revision_lock.proofs.Passing.{closed, closed_with}
use Rattle.revision_lock.proofs.lock.TurnLock.close.Goals as goal

pub unreachable-requires : goal.unreachable-requires
unreachable-requires g c =
    let pass = c.requires.pass in
    let k = closed g.V.Chronicle.start g.V.Chronicle.list _ _ _ _ _ _ _ c.close_with-closed.ensures.values.2 pass.idle c.requires.share pass.shares c.take.ensures.value in
    c.in_default.not-Home k.0 k.1

pub returns : goal.returns
returns g c =
    let pass = c.requires.pass in
    let k = closed_with g.V.Chronicle.start g.V.Chronicle.list _ _ _ _ _ _ _ _ c.close_with-closed.ensures.values.2 pass.idle c.requires.share pass.shares c.take.ensures.value c.in-Home.is in
    record { start = k.0; seen = k.1; own = k.2 }
