use Rattle.std.proofs.Common.{[], sym, ap, ◌∙◌}
use Rattle.dependency_log.specs.Logged.{cells_of}
use Rattle.dependency_log.proofs.EdgeLemmas.{cells_of-log}
use Rattle.dependency_log.proofs.StepLemmas.{replaced}
use Rattle.dependency_log.proofs.log.Log.drop_slot.Goals as goal

pub returns-clause-dropped : goal.returns-clause-dropped
returns-clause-dropped c =
    replaced c.self.inside.edges c.clear.new.self c.args.slot [] c.args.self.now c.self.invariant c.clear.ensures.sound c.self.view_is c.clear.ensures.empty c.clear.ensures.same.others

pub returns-clause-nothing : goal.returns-clause-nothing
returns-clause-nothing c none =
    c.clear.ensures.nothing (sym (cells_of-log c.self.inside.edges c.args.slot c.self.invariant) ∙ ap (λ log. cells_of log c.args.slot) c.self.view_is ∙ none) ∙ c.self.view_is
