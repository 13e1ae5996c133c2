use Rattle.std.proofs.Common.{◌≡◌, [], ◌∷◌, ap, sym, ◌∙◌}
use Rattle.revision_lock.specs.declared.view.Slot.TheVariants.{Home}
use Rattle.revision_lock.proofs.Passing.{opens}
use Rattle.revision_lock.proofs.lock.TurnLock.new.Goals as goal

pub new-requires : goal.new-requires
new-requires g c =
    let same : c.of.result.value ≡ c.args.value = c.of.ensures in
    let slots : c.in-Ok.slots.items ≡ Home c.of.result.value ∷ [] = c.in-Ok.ensures.ok ∙ ap (λ x. Home x ∷ []) (sym same) in
    rw slots (opens _ _ _ _ (ap g.V.Chronicle.list same ∙ c.requires.empty) c.requires.seats c.ranges.seats.fits)
