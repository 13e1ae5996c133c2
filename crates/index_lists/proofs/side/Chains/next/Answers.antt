use Rattle.std.proofs.Common.{◌≡◌, ℕ, Option, sym, ap, ◌∙◌, subst}
use Rattle.std.specs.Prelude.{IfSome}
use Rattle.index_lists.specs.declared.links.Link.{Link}
use Rattle.index_lists.specs.declared.links.Links.{Links}
use Rattle.index_lists.specs.Lists.{place_after}
use Rattle.index_lists.specs.Side.{Side, list_at, owner_at}
use Rattle.index_lists.specs.Links.{link_at, side_of}
use Rattle.index_lists.proofs.LinkLemmas.{next-owner, next-in_list, link_read, owned_within, owner_some}
use Rattle.index_lists.proofs.side.Chains.next.Goals as goal

pub returns-clause-next : goal.returns-clause-next
returns-clause-next c =
    let k : Links = c.self.inside.links in
    let own = owner_some k c.args.self.now c.args.place c.self.view_is c.requires in
    let read : c.index.result.now ≡ link_at k c.args.place = link_read k c.args.place c.index.result.now (owned_within k c.args.place own.0 own.1) c.index.ensures in
    let after : c.get.result ≡ (link_at k c.args.place).after = c.get.ensures ∙ ap (λ (link : Link). link.after) read in
    subst (λ (s : Side). IfSome (owner_at s c.args.place) (λ l. c.get.result ≡ place_after c.args.place (list_at s l))) c.self.view_is
    (subst (λ (o : Option ℕ). IfSome (owner_at (side_of k) c.args.place) (λ l. o ≡ place_after c.args.place (list_at (side_of k) l))) (sym after)
    (next-in_list k c.args.place c.self.invariant.0))

pub returns-clause-owner : goal.returns-clause-owner
returns-clause-owner c =
    let k : Links = c.self.inside.links in
    let own = owner_some k c.args.self.now c.args.place c.self.view_is c.requires in
    let read : c.index.result.now ≡ link_at k c.args.place = link_read k c.args.place c.index.result.now (owned_within k c.args.place own.0 own.1) c.index.ensures in
    let after : c.get.result ≡ (link_at k c.args.place).after = c.get.ensures ∙ ap (λ (link : Link). link.after) read in
    subst (λ (s : Side). IfSome c.get.result (λ q. owner_at s q ≡ owner_at s c.args.place)) c.self.view_is
    (subst (λ (o : Option ℕ). IfSome o (λ q. owner_at (side_of k) q ≡ owner_at (side_of k) c.args.place)) (sym after)
    (next-owner k own.0 c.args.place c.self.invariant.0 own.1))
