use Rattle.dependency_log.proofs.EdgeLemmas.{cells_apart, nothing_sound}
use Rattle.dependency_log.proofs.edges.Edges.new.Goals as goal

pub returns-clause-sound : goal.returns-clause-sound
returns-clause-sound c =
    nothing_sound (record { cells = c.new.result; slots = c.new-2.result; threads = c.new-3.result }) c.new-3.ensures.empty c.new.ensures.empty c.new-2.ensures.empty
    c.new-3.ensures.woven (cells_apart c.new.result.keys c.new.ensures.unique) c.new-2.ensures.unique
