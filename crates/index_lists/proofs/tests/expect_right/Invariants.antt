use Rattle.std.specs.Prelude.{IfSome}
use Rattle.index_lists.specs.Threads.{IsLive}
use Rattle.index_lists.proofs.tests.expect_right.Given as goal

abbrev pub invariant-loop-entry : goal.invariant-loop-entry
invariant-loop-entry g l = IfSome l.at (IsLive l.threads)
