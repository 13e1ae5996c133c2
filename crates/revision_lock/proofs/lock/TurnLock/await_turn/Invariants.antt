use Rattle.revision_lock.specs.Passes.{IsWaiting}
use Rattle.revision_lock.proofs.lock.TurnLock.await_turn.Given as goal

abbrev pub invariant-loop : goal.invariant-loop
invariant-loop g l = IsWaiting l.self l.ticket l.fn.pass l.pass
