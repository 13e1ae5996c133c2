use Rattle.std.proofs.Common.{sym, ap, ◌∙◌}
use Rattle.std.specs.FinMap as map
use Rattle.result_origin.specs.Stored.{Shelf, kept}
use Rattle.result_origin.proofs.StoredLemmas.{get_value, one_taken}
use Rattle.result_origin.proofs.fragments.Fragments.take.Goals as goal

pub returns-clause-value : goal.returns-clause-value
returns-clause-value c = c.remove.ensures.value ∙ (sym (get_value c.self.inside.by_number.entries c.args.id) ∙ ap (λ (s : Shelf). kept s.stored c.args.id) c.self.view_is)

pub returns-clause-stored : goal.returns-clause-stored
returns-clause-stored c =
    one_taken c.self.inside.by_number.entries c.remove.new.self.entries c.args.id c.remove.ensures.updates.0
    ∙ ap (λ (s : Shelf). map.remove s.stored c.args.id) c.self.view_is
