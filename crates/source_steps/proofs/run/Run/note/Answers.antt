use Rattle.std.proofs.Common.{◌≡◌, ◌+◌, ◌++◌, ◌∷◌, [], take, refl, sym, ap, ◌∙◌, subst}
use Rattle.std.proofs.lemmas.List.{take_more}
use Rattle.source_steps.specs.Runs.{Notes}
use Rattle.source_steps.proofs.Applying.{notes_more}
use Rattle.source_steps.proofs.run.Run.note.Goals as goal

pub loop-change-preserved : goal.loop-change-preserved
loop-change-preserved c =
    let changes = c.args.changes.now in
    let at = c.loop-change.change-index in
    let change = c.change-item.result in
    let one : take (at + 1) changes ≡ take at changes ++ change ∷ [] = take_more changes at change c.loop-change-test.true ∙ ap (λ x. take at changes ++ x ∷ []) (sym c.change-item.is) in
    subst (λ cs. Notes c.args.self.now cs (record { cells = c.loop-change.self.cells; made = c.loop-change.self.made; inverses = c.loop-change.self.inverses; touched = c.read.new.self })) (sym one)
    (notes_more c.args.self.now c.loop-change.self
    (record { cells = c.loop-change.self.cells; made = c.loop-change.self.made; inverses = c.loop-change.self.inverses; touched = c.read.new.self }) (take at changes) change c.loop-change.invariant refl refl refl
    c.in_ok-read.ensures.logged)
