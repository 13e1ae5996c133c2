use Rattle.index_lists.specs.Threads.{IsLive}
use Rattle.index_lists.proofs.tests.place_in.Given as goal

abbrev pub invariant-loop : goal.invariant-loop
invariant-loop l = IsLive l.threads l.at
