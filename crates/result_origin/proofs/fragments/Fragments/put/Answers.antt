use Rattle.std.proofs.Common.{sym, ap, ◌∙◌}
use Rattle.std.specs.FinMap as map
use Rattle.result_origin.specs.Stored.{Shelf, kept}
use Rattle.result_origin.proofs.StoredLemmas.{get_value, one_put}
use Rattle.result_origin.proofs.fragments.Fragments.put.Goals as goal

pub returns-in-Ok-clause-ok : goal.returns-in-Ok-clause-ok
returns-in-Ok-clause-ok c =
    one_put c.self.inside.by_number.entries c.insert.new.self.entries c.args.id c.args.fragment c.in-Ok.ensures.updates.0
    ∙ ap (λ (s : Shelf). map.insert s.stored c.args.id c.args.fragment) c.self.view_is

pub returns-clause-absent : goal.returns-clause-absent
returns-clause-absent c =
    ap (λ (s : Shelf). kept s.stored c.args.id) (sym c.self.view_is) ∙ (get_value c.self.inside.by_number.entries c.args.id ∙ c.in-Err.ensures.absent)
