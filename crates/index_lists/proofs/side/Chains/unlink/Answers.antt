use Rattle.std.proofs.Common.{◌≡◌, Some, sym, ap, ◌∙◌, subst}
use Rattle.index_lists.specs.declared.links.Link.{Link}
use Rattle.index_lists.specs.declared.links.Links.{Links}
use Rattle.index_lists.specs.Side.{Side, TakesOut}
use Rattle.index_lists.specs.Links.{link_at, owner_of, side_of}
use Rattle.index_lists.proofs.LinkLemmas.{TakenOut, joins_as, owner_as, link_read, before_within, after_within, own_list, owned_within, taken_out, counted_as, sound_side, owner_some}
use Rattle.index_lists.proofs.side.Chains.unlink.Goals as goal

pub join-requires-clause-list : goal.join-requires-clause-list
join-requires-clause-list c =
    let k : Links = c.self.inside.links in
    let some = owner_some k c.args.self.now c.args.place c.self.view_is c.requires in
    let read : c.index-link.result.now ≡ link_at k c.args.place = link_read k c.args.place c.index-link.result.now (owned_within k c.args.place some.0 some.1) c.index-link.ensures in
    let own : owner_of k c.args.place ≡ Some c.unwrap-list.result = sym (c.get.ensures ∙ ap (λ (x : Link). x.list) read) ∙ c.unwrap-list.ensures in
    own_list k c.unwrap-list.result c.args.place c.self.invariant.0 own

pub join-requires-clause-before : goal.join-requires-clause-before
join-requires-clause-before c = λ q e.
    let k : Links = c.self.inside.links in
    let some = owner_some k c.args.self.now c.args.place c.self.view_is c.requires in
    let read : c.index-link.result.now ≡ link_at k c.args.place = link_read k c.args.place c.index-link.result.now (owned_within k c.args.place some.0 some.1) c.index-link.ensures in
    let own : owner_of k c.args.place ≡ Some c.unwrap-list.result = sym (c.get.ensures ∙ ap (λ (x : Link). x.list) read) ∙ c.unwrap-list.ensures in
    before_within k c.unwrap-list.result c.args.place q c.self.invariant.0 own (sym (ap (λ (x : Link). x.before) read) ∙ e)

pub join-requires-clause-after : goal.join-requires-clause-after
join-requires-clause-after c = λ q e.
    let k : Links = c.self.inside.links in
    let some = owner_some k c.args.self.now c.args.place c.self.view_is c.requires in
    let read : c.index-link.result.now ≡ link_at k c.args.place = link_read k c.args.place c.index-link.result.now (owned_within k c.args.place some.0 some.1) c.index-link.ensures in
    let own : owner_of k c.args.place ≡ Some c.unwrap-list.result = sym (c.get.ensures ∙ ap (λ (x : Link). x.list) read) ∙ c.unwrap-list.ensures in
    after_within k c.unwrap-list.result c.args.place q c.self.invariant.0 own (sym (ap (λ (x : Link). x.after) read) ∙ e)

-- what the two changes of the links come to
taken_here : (c : goal.After-set_owner) → TakenOut c.self.inside.links c.set_owner.new.self c.unwrap-list.result c.args.place
taken_here c =
    let k : Links = c.self.inside.links in
    let some = owner_some k c.args.self.now c.args.place c.self.view_is c.requires in
    let read : c.index-link.result.now ≡ link_at k c.args.place = link_read k c.args.place c.index-link.result.now (owned_within k c.args.place some.0 some.1) c.index-link.ensures in
    let own : owner_of k c.args.place ≡ Some c.unwrap-list.result = sym (c.get.ensures ∙ ap (λ (x : Link). x.list) read) ∙ c.unwrap-list.ensures in
    taken_out k c.join.new.self c.set_owner.new.self c.unwrap-list.result c.args.place c.self.invariant.0 own
    (joins_as k c.join.new.self c.unwrap-list.result _ _ _ _ (ap (λ (x : Link). x.before) read) (ap (λ (x : Link). x.after) read) (record { forward = c.join.ensures.forward; back = c.join.ensures.back; owners = c.join.ensures.owners; place_count = c.join.ensures.place_count; list_count = c.join.ensures.list_count }))
    (owner_as c.join.new.self c.set_owner.new.self c.args.place _ _ c.none.ensures c.set_owner.ensures)

pub invariant_of-self : goal.invariant_of-self
invariant_of-self c =
    let t = taken_here c in
    (t.chained, counted_as c.self.inside.links c.set_owner.new.self t.place_count t.list_count c.self.invariant.1)

pub returns-clause-takes_out : goal.returns-clause-takes_out
returns-clause-takes_out c =
    subst (λ (s : Side). TakesOut s (side_of c.set_owner.new.self) c.unwrap-list.result c.args.place) c.self.view_is (taken_here c).takes_out

pub returns-clause-sound : goal.returns-clause-sound
returns-clause-sound c = sound_side c.set_owner.new.self (taken_here c).chained
