use Rattle.std.proofs.Common.{◌≡◌, ◌<◌, None, sym, ap, ◌∙◌, subst}
use Rattle.index_lists.specs.declared.links.Ends.{Ends}
use Rattle.index_lists.specs.declared.links.Links.{Links}
use Rattle.index_lists.specs.Side.{Side, owner_at, Appends}
use Rattle.index_lists.specs.Links.{list_count, ends_at, side_of}
use Rattle.index_lists.proofs.LinkLemmas.{Pushed, joins_as, owner_as, ends_read, last_within, pushed, counted_as, sound_side, list_within}
use Rattle.index_lists.proofs.side.Chains.push_back.Goals as goal

pub join-requires-clause-before : goal.join-requires-clause-before
join-requires-clause-before c = λ p e.
    let k : Links = c.self.inside.links in
    let within : c.args.list < list_count k = list_within k c.args.self.now c.args.list c.self.view_is c.requires.list in
    let read : c.index.result.now ≡ ends_at k c.args.list = ends_read k c.args.list c.index.result.now within c.index.ensures in
    last_within k c.args.list p c.self.invariant.0 within (sym (ap (λ (x : Ends). x.last) read) ∙ e)

-- what the three changes of the links come to
pushed_here : (c : goal.After-set_owner) → Pushed c.self.inside.links c.set_owner.new.self c.args.list c.args.place
pushed_here c =
    let k : Links = c.self.inside.links in
    let within : c.args.list < list_count k = list_within k c.args.self.now c.args.list c.self.view_is c.requires.list in
    let read : c.index.result.now ≡ ends_at k c.args.list = ends_read k c.args.list c.index.result.now within c.index.ensures in
    let free : owner_at (side_of k) c.args.place ≡ None = subst (λ (s : Side). owner_at s c.args.place ≡ None) (sym c.self.view_is) c.requires.free in
    pushed k c.join.new.self c.join-2.new.self c.set_owner.new.self c.args.list c.args.place c.self.invariant.0 within free
    (joins_as k c.join.new.self c.args.list _ _ _ _ (ap (λ (e : Ends). e.last) read) c.of.ensures (record { forward = c.join.ensures.forward; back = c.join.ensures.back; owners = c.join.ensures.owners; place_count = c.join.ensures.place_count; list_count = c.join.ensures.list_count }))
    (joins_as c.join.new.self c.join-2.new.self c.args.list _ _ _ _ c.of-2.ensures c.none-after.ensures (record { forward = c.join-2.ensures.forward; back = c.join-2.ensures.back; owners = c.join-2.ensures.owners; place_count = c.join-2.ensures.place_count; list_count = c.join-2.ensures.list_count }))
    (owner_as c.join-2.new.self c.set_owner.new.self c.args.place _ _ c.of-3.ensures c.set_owner.ensures)

pub invariant_of-self : goal.invariant_of-self
invariant_of-self c =
    let p = pushed_here c in
    (p.chained, counted_as c.self.inside.links c.set_owner.new.self p.place_count p.list_count c.self.invariant.1)

pub returns-clause-appends : goal.returns-clause-appends
returns-clause-appends c =
    subst (λ (s : Side). Appends s (side_of c.set_owner.new.self) c.args.list c.args.place) c.self.view_is (pushed_here c).appends

pub returns-clause-sound : goal.returns-clause-sound
returns-clause-sound c = sound_side c.set_owner.new.self (pushed_here c).chained
