use Rattle.std.proofs.Common.{take}
use Rattle.source_steps.specs.Runs.{Notes}
use Rattle.source_steps.proofs.run.Run.note.Given as goal

abbrev pub invariant-loop-change : goal.invariant-loop-change
invariant-loop-change l = Notes l.initial.self (take l.change-index l.changes) l.self
