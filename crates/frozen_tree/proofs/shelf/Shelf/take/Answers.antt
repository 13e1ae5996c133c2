-- Only the place itself is emptied.
use Rattle.std.proofs.Common.{◌∙◌, ap}
use Rattle.std.specs.Arc.{arc_value}
use Rattle.frozen_tree.specs.Shelves.{place_in}
use Rattle.frozen_tree.proofs.ShelfLemmas.{place_in-set_other}
use Rattle.frozen_tree.proofs.shelf.Shelf.take.Goals as goal

pub returns-clause-others : goal.returns-clause-others
returns-clause-others g c k other =
    place_in-set_other arc_value g.T.Shelved.nothing c.self.inside.places.items c.args.place k c.take.new.self other
    ∙ ap (λ s. place_in g.T.Shelved.nothing s k) c.self.view_is
