use Rattle.dependency_log.proofs.StepLemmas.{roomier_log, roomier_sound}
use Rattle.dependency_log.proofs.edges.Edges.reserve.Goals as goal

pub returns-clause-same : goal.returns-clause-same
returns-clause-same c = roomier_log c.args.self.now c.reserve.new.self c.requires.sound c.reserve.ensures.kept

pub returns-clause-sound : goal.returns-clause-sound
returns-clause-sound c = roomier_sound c.args.self.now c.reserve.new.self c.requires.sound c.reserve.ensures.kept c.reserve.ensures.woven
