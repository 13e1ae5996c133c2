use Rattle.std.proofs.Common.{refl, ap, ◌∙◌, subst}
use Rattle.frozen_tree.specs.Frozen.{cells_of}
use Rattle.frozen_tree.specs.Maps.{changed_by}
use Rattle.source_steps.specs.Runs.{Notes}
use Rattle.source_steps.proofs.Applying.{step_added}
use Rattle.source_steps.proofs.run.Run.add.Goals as goal

pub returns : goal.returns
returns c =
    step_added c.args.self.now c.note.new.self (record { cells = c.in_ok-self.field-0; made = c.greater-self.result; inverses = c.push.new.self; touched = c.note.new.self.touched })
    c.args.primitive.now c.in_ok-step.step c.in_ok-step.ensures (subst (λ cs. Notes c.args.self.now cs c.note.new.self) c.as_slice.ensures c.in_ok-note.ensures)
    (c.in_ok-self.ensures.cells ∙ ap (λ cs. changed_by cs (cells_of c.note.new.self.cells)) c.as_slice-2.ensures) c.in_ok-push.ensures.ok c.greater-self.ensures refl
