-- Added places do not show, and the value shows at its place alone.
use Rattle.std.proofs.Common.{◌∙◌, ap, arith}
use Rattle.std.specs.Arc.{arc_value}
use Rattle.frozen_tree.specs.Shelves.{place_in}
use Rattle.frozen_tree.proofs.ShelfLemmas.{shown, place_in-push, place_in-put}
use Rattle.frozen_tree.proofs.shelf.Shelf.put.Goals as goal

pub loop-self-preserved : goal.loop-self-preserved
loop-self-preserved g c k =
    ap (λ places. place_in g.T.Shelved.nothing (shown arc_value places) k) c.in_ok-push.ensures.items
    ∙ place_in-push arc_value g.T.Shelved.nothing c.loop-self.self-inside.places.items k
    ∙ c.loop-self.invariant k

pub returns : goal.returns
returns g c =
    place_in-put arc_value g.T.Shelved.nothing c.loop-self.self-inside.places.items c.args.self.now c.args.place c.in_ok-shared.shared c.args.value
    c.in_ok-shared.ensures.ok
    (omega (arith, c.loop-self.self-inside.places.ok.0))
    (λ k. c.loop-self.invariant k ∙ ap (λ s. place_in g.T.Shelved.nothing s k) c.self.view_is)
