-- What the links of one node say to a caller, who knows the forest alone.
use Rattle.std.proofs.Common.{◌≡◌, ℕ, ◌<◌, List, get_or, Option, Some, None, refl, sym, ap, ◌∙◌, subst}
use Rattle.std.specs.Prelude.{IfSome, IsSome}
use Rattle.index_lists.specs.Lists.{without, place_after}
use Rattle.linked_tree.specs.declared.links.Links.{Links}
use Rattle.linked_tree.specs.declared.links.Nodes.{Nodes}
use Rattle.linked_tree.specs.Forest.{Node, count, parent_of, kids_of, last_of, IsForest}
use Rattle.linked_tree.specs.Links.{node_count, links_at, parent_in, forest_of, IsSound, Joins, SetsParent}
use Rattle.linked_tree.proofs.LinkLemmas.{parent_of-forest_of, length-forest_of, child_within, sound_forest, made_within, parent_is, after_on, next_is, previous_on, parent_within, last_is, last_on, links_read, Changes, unlink_changes}

pub if_some : (y : Option ℕ) (P : ℕ → Type 0) → ((p : ℕ) → y ≡ Some p → P p) → IfSome y P
if_some None P h = tt
if_some (Some p) P h = h p refl

pub some_of : (y : Option ℕ) → IsSome y → (p : ℕ) × (y ≡ Some p)
some_of None h = absurd (cc)
some_of (Some p) h = (p, refl)

module _ (k : Nodes) (t : List Node) (is : forest_of k ≡ t) (sound : IsSound k) where
  pub forest : IsForest t
  forest = subst (λ (s : List Node). IsForest s) is (sound_forest k sound)

  parent_told : (n : ℕ) (y : Option ℕ) → parent_in k n ≡ y → parent_of t n ≡ y
  parent_told n y e = ap (λ (s : List Node). parent_of s n) (sym is) ∙ parent_of-forest_of k n ∙ e

  made_told : (n : ℕ) → n < node_count k → n < count t
  made_told n within = subst (λ c. n < c) (sym (length-forest_of k) ∙ ap count is) within

  module _ (n : ℕ) (x : Links) (read : x ≡ get_or k.links.items n x) where
    module _ (made : n < count t) where
      pub at : x ≡ links_at k n
      at = links_read k n x (made_within k t is n made) read

      pub parent_made : (q : ℕ) → x.parent ≡ Some q → q < count t
      parent_made q e = made_told q (parent_within k sound n q (sym (ap (λ (links : Links). links.parent) at) ∙ e))

      pub first_kid : (q : ℕ) → x.first ≡ Some q → parent_of t q ≡ Some n
      first_kid q e = parent_told q (Some n) (after_on k sound n None q (made_within k t is n made) tt (sym (ap (λ (links : Links). links.first) at) ∙ e))

      pub last_kid : (q : ℕ) → x.last ≡ Some q → parent_of t q ≡ Some n
      last_kid q e = parent_told q (Some n) (last_on k sound n q (made_within k t is n made) (sym (ap (λ (links : Links). links.last) at) ∙ e))

      pub last_told : x.last ≡ last_of (kids_of t n)
      last_told = ap (λ (links : Links). links.last) at ∙ last_is k sound n (made_within k t is n made) ∙ ap (λ (s : List Node). last_of (kids_of s n)) is

    module _ (p : ℕ) (own : parent_of t n ≡ Some p) where
      pub kid_at : x ≡ links_at k n
      kid_at = links_read k n x (child_within k n p (parent_is k t is n (Some p) own)) read

      pub next_told : x.next ≡ place_after n (kids_of t p)
      next_told = ap (λ (links : Links). links.next) kid_at ∙ next_is k sound p n (parent_is k t is n (Some p) own) ∙ ap (λ (s : List Node). place_after n (kids_of s p)) is

      pub next_kid : (q : ℕ) → x.next ≡ Some q → parent_of t q ≡ Some p
      next_kid q e =
          let own' : parent_in k n ≡ Some p = parent_is k t is n (Some p) own in
          parent_told q (Some p) (after_on k sound p (Some n) q (parent_within k sound n p own') own' (sym (ap (λ (links : Links). links.next) kid_at) ∙ e))

      pub previous_kid : (q : ℕ) → x.previous ≡ Some q → parent_of t q ≡ Some p
      previous_kid q e = parent_told q (Some p) (previous_on k sound p n q (parent_is k t is n (Some p) own) (sym (ap (λ (links : Links). links.previous) kid_at) ∙ e))

    module _ (some : IsSome (parent_of t n)) where
      own_some : (p : ℕ) × (parent_of t n ≡ Some p)
      own_some = some_of (parent_of t n) some

      pub own_told : (l : ℕ) → x.parent ≡ Some l → parent_of t n ≡ Some l
      own_told l e = parent_told n (Some l) (sym (ap (λ (links : Links). links.parent) (kid_at own_some.0 own_some.1)) ∙ e)

      pub parent_within_told : (l : ℕ) → x.parent ≡ Some l → l < node_count k
      parent_within_told l e = parent_within k sound n l (parent_is k t is n (Some l) (own_told l e))

      pub previous_within : (l q : ℕ) → x.parent ≡ Some l → x.previous ≡ Some q → q < node_count k
      previous_within l q e at_q = child_within k q l (parent_is k t is q (Some l) (previous_kid l (own_told l e) q at_q))

      pub next_within : (l q : ℕ) → x.parent ≡ Some l → x.next ≡ Some q → q < node_count k
      next_within l q e at_q = child_within k q l (parent_is k t is q (Some l) (next_kid l (own_told l e) q at_q))

      pub unlinked : (k1 k2 : Nodes) (l : ℕ) (before after : Option ℕ) → x.parent ≡ Some l → before ≡ x.previous → after ≡ x.next → Joins k k1 l before after → SetsParent k1 k2 n None → Changes k k2 l n (without n (kids_of t l)) None
      unlinked k1 k2 l before after e is_before is_after joined freed =
          unlink_changes k k1 k2 t l n is sound (own_told l e)
          (subst (λ y. Joins k k1 l y (links_at k n).next) (is_before ∙ ap (λ (links : Links). links.previous) (kid_at own_some.0 own_some.1))
          (subst (λ y. Joins k k1 l before y) (is_after ∙ ap (λ (links : Links). links.next) (kid_at own_some.0 own_some.1)) joined)) freed

  -- a child is a node
  pub kid_made : (n p : ℕ) → parent_of t n ≡ Some p → n < count t
  kid_made n p own = made_told n (child_within k n p (parent_is k t is n (Some p) own))
