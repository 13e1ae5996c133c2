use Rattle.std.proofs.Common.{ap, ◌∙◌}
use Rattle.result_origin.specs.Stored.{Shelf}
use Rattle.result_origin.proofs.StoredLemmas.{same_made}
use Rattle.result_origin.proofs.fragments.Fragments.reserve.Goals as goal

pub returns-clause-stored : goal.returns-clause-stored
returns-clause-stored c =
    same_made c.self.inside.by_number.entries c.reserve.new.self.entries c.reserve.ensures.entries.2 ∙ ap (λ (s : Shelf). s.stored) c.self.view_is
