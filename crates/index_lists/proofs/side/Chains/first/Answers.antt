use Rattle.std.proofs.Common.{◌≡◌, ◌<◌, ℕ, Option, Some, sym, ap, ◌∙◌, subst}
use Rattle.std.specs.Prelude.{IfSome}
use Rattle.index_lists.specs.declared.links.Ends.{Ends}
use Rattle.index_lists.specs.declared.links.Links.{Links}
use Rattle.index_lists.specs.Side.{Side, owner_at}
use Rattle.index_lists.specs.Links.{list_count, ends_at, side_of}
use Rattle.index_lists.proofs.LinkLemmas.{first-owner, ends_read, list_within}
use Rattle.index_lists.proofs.side.Chains.first.Goals as goal

pub returns-clause-owner : goal.returns-clause-owner
returns-clause-owner c =
    let k : Links = c.self.inside.links in
    let within : c.args.list < list_count k = list_within k c.args.self.now c.args.list c.self.view_is c.requires in
    let read : c.index.result.now ≡ ends_at k c.args.list = ends_read k c.args.list c.index.result.now within c.index.ensures in
    let first : c.get.result ≡ (ends_at k c.args.list).first = c.get.ensures ∙ ap (λ (e : Ends). e.first) read in
    subst (λ (s : Side). IfSome c.get.result (λ p. owner_at s p ≡ Some c.args.list)) c.self.view_is
    (subst (λ (o : Option ℕ). IfSome o (λ p. owner_at (side_of k) p ≡ Some c.args.list)) (sym first) (first-owner k c.args.list c.self.invariant.0 within))
