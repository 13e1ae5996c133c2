use Rattle.std.proofs.Common.{sym, ap, ◌∙◌}
use Rattle.result_origin.specs.Stored.{Shelf, kept}
use Rattle.result_origin.proofs.StoredLemmas.{get_value}
use Rattle.result_origin.proofs.fragments.Fragments.get.Goals as goal

pub returns : goal.returns
returns c = c.get.ensures.value ∙ (sym (get_value c.self.inside.by_number.entries c.args.id) ∙ ap (λ (s : Shelf). kept s.stored c.args.id) c.self.view_is)
