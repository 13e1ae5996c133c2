use Rattle.std.proofs.Common.{◌∷◌, ap, sym, ◌∙◌}
use Rattle.atomic_table.specs.Table.{rest}
use Rattle.revision_lock.specs.declared.view.Slot.TheVariants.{Home}
use Rattle.revision_lock.proofs.lock.TurnLock.take_value.Goals as goal

pub exchange-requires : goal.exchange-requires
exchange-requires g c = let h = c.requires.1 in (h.table, (Home c.requires.0, h.holds ∙ ap (λ l. (0, Home c.requires.0) ∷ rest l) (sym h.holds)))
