use Rattle.std.proofs.Common.{◌≡◌}
use Rattle.revision_lock.specs.Passes.{IsPassOf, share_of}
use Rattle.revision_lock.proofs.tests.fill.Given as goal

abbrev pub invariant-loop-i : goal.invariant-loop-i
invariant-loop-i g l = IsPassOf l.lock l.pass × (share_of l.pass ≡ share_of l.initial.pass)
