use Rattle.std.proofs.Common.{sym, ◌∙◌, subst}
use Rattle.std.specs.Prelude.{All, Contains}
use Rattle.dependency_log.specs.Logged.{each_once}
use Rattle.dependency_log.proofs.StepLemmas.{replaced}
use Rattle.dependency_log.proofs.log.Log.put.Goals as goal

pub connect-requires-clause-cells : goal.connect-requires-clause-cells
connect-requires-clause-cells c =
    subst (λ ks. All (Contains ks) c.as_slice-cells.result.now) (sym c.clear.ensures.same.cell_numbers) c.in_ok-prepare.ensures.cells

pub returns-clause-put : goal.returns-clause-put
returns-clause-put c =
    replaced c.prepare.new.self c.connect.new.self c.args.slot (each_once c.args.cells.now) c.args.self.now c.prepare.ensures.sound c.connect.ensures.sound
    (c.prepare.ensures.same ∙ c.self.view_is)
    (c.connect.ensures.cells ∙ c.as_slice-cells.ensures.keys ∙ c.in_ok-named.ensures.once)
    (λ s ne. c.connect.ensures.same.others s ne ∙ c.clear.ensures.same.others s ne)
