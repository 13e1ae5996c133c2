use Rattle.std.proofs.Common.{rules, ◌∙◌}
use Rattle.std.specs.Prelude.{option_map}
use Rattle.std.specs.Arc.{arc_value}
use Rattle.frozen_tree.proofs.ShelfLemmas.{map-all_zip}
use Rattle.frozen_tree.proofs.shelf.ShelfShelved.copy.Goals as goal

pub returns : goal.returns
returns g c =
    map-all_zip _ (option_map arc_value) (λ x y r. search rules) c.self.inside.places.items c.in_ok-places.places.items c.in_ok-places.ensures.cases.0
    ∙ c.self.view_is
