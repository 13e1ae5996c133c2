use Rattle.source_model.specs.Source.{Source}
use Rattle.frozen_tree.specs.Frozen.{cells_of}
use Rattle.source_steps.specs.Runs.{IsReadyAll, Covers, IsRunTo}
use Rattle.source_steps.proofs.run.Run.of.Given as goal

abbrev pub invariant-loop-primitive : goal.invariant-loop-primitive
invariant-loop-primitive l =
    ((source : Source) → IsReadyAll (cells_of l.cells) l.made l.primitives source → IsRunTo source l.primitives l.primitive-index l.run) × Covers (cells_of l.cells) l.run
