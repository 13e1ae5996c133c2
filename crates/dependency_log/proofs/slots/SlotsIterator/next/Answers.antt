use Rattle.std.proofs.Common.{◌≡◌, ◌∷◌, sym, ap, ◌∙◌, rules}
use Rattle.dependency_log.specs.Edges.{slots_from}
use Rattle.dependency_log.proofs.SlotLemmas.{slots_next}
use Rattle.dependency_log.proofs.slots.SlotsIterator.next.Goals as goal

pub returns-clause-steps : goal.returns-clause-steps
returns-clause-steps c =
    slots_next c.self.inside.edges.now c.self.invariant.0 c.self.inside.at c.next-self-inside.result c.args.self.now c.in_ok-place.place
    c.self.invariant.1 c.self.view_is c.in_ok-place.was c.next-self-inside.ensures.next c.next-self-inside.ensures.cell
    ∙ ap (λ slot. slot ∷ slots_from c.self.inside.edges.now c.next-self-inside.result) (sym c.slot.ensures)

pub returns-clause-goes : goal.returns-clause-goes
returns-clause-goes c =
    let step : c.args.self.now ≡ c.slot.result ∷ slots_from c.self.inside.edges.now c.next-self-inside.result =
    slots_next c.self.inside.edges.now c.self.invariant.0 c.self.inside.at c.next-self-inside.result c.args.self.now c.in_ok-place.place
    c.self.invariant.1 c.self.view_is c.in_ok-place.was c.next-self-inside.ensures.next c.next-self-inside.ensures.cell
    ∙ ap (λ slot. slot ∷ slots_from c.self.inside.edges.now c.next-self-inside.result) (sym c.slot.ensures) in
    rw step (search rules)
