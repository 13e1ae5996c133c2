-- Sound links stay sound, and the forest stays, where links are kept and nodes that stand alone are added.
use Rattle.std.proofs.Common.{◌≡◌, ℕ, zero, suc, ◌+◌, ◌<◌, ◌≤◌, ◌^◌, List, [], ◌∷◌, ◌++◌, length, get_or, Some, refl, sym, ap, ◌∙◌, subst, le_of_eq, length-append, arith}
use Rattle.std.proofs.lemmas.List.{get_or_past, ext_get_or}
use Rattle.index_lists.specs.Rings.{Spot, edge, inner, IsLinked}
use Rattle.index_lists.proofs.RingChanges.{linked_more}
use Rattle.linked_tree.specs.declared.links.Links.{Links}
use Rattle.linked_tree.specs.declared.links.Nodes.{Nodes}
use Rattle.linked_tree.specs.Forest.{Node, alone, kids_of}
use Rattle.linked_tree.specs.Links.{no_links, node_count, links_at, parent_in, after_in, before_in, forest_of, IsSound}
use Rattle.linked_tree.proofs.Climbs.{climb_same}
use Rattle.linked_tree.proofs.LinkLemmas.{parent_of-forest_of, kids_said, length-forest_of, sound_with}

node_ext : (a b : Node) → a.parent ≡ b.parent → a.kids ≡ b.kids → a ≡ b
node_ext a b e e' = λ i. record { parent = e i; kids = e' i }

-- a list with its default at the end reads as without
pub at_pushed : {A : Type 0} (xs : List A) (i : ℕ) (d : A) → get_or (xs ++ d ∷ []) i d ≡ get_or xs i d
at_pushed [] zero d = refl
at_pushed [] (suc i) d = refl
at_pushed (x ∷ xs) zero d = refl
at_pushed (x ∷ xs) (suc i) d = at_pushed xs i d

module _ (k k' : Nodes) (sound : IsSound k) (same : (n : ℕ) → links_at k' n ≡ links_at k n) (more : node_count k ≤ node_count k') (few : node_count k' < 2 ^ 32) where
  grown_parents : (n : ℕ) → parent_in k' n ≡ parent_in k n
  grown_parents n = ap (λ (links : Links). links.parent) (same n)

  grown_after : (t : Spot) → after_in k' t ≡ after_in k t
  grown_after (edge l) = ap (λ (links : Links). links.first) (same l)
  grown_after (inner n) = ap (λ (links : Links). links.next) (same n)

  grown_before : (t : Spot) → before_in k' t ≡ before_in k t
  grown_before (edge l) = ap (λ (links : Links). links.last) (same l)
  grown_before (inner n) = ap (λ (links : Links). links.previous) (same n)

  grown_linked : IsLinked (after_in k') (before_in k') (parent_in k') (λ l. kids_of (forest_of k) l) (node_count k')
  grown_linked = linked_more (after_in k) (before_in k) (parent_in k) (λ l. kids_of (forest_of k) l) (node_count k) sound.linked
      (after_in k') (before_in k') (parent_in k') (node_count k') more
      grown_after grown_before grown_parents
      (λ l past. ap (λ (links : Links). links.first) (get_or_past k.links.items l no_links past))
      (λ l past. ap (λ (links : Links). links.last) (get_or_past k.links.items l no_links past))

  pub grown_sound : IsSound k'
  grown_sound = sound_with k' (λ l. kids_of (forest_of k) l) grown_linked
      (λ n m e. sound.no_ring n m (sym (climb_same (parent_in k) (parent_in k') grown_parents (suc m) (Some n)) ∙ e)) few

  grown_node : (n : ℕ) → get_or (forest_of k') n alone ≡ get_or (forest_of k) n alone
  grown_node n = node_ext (get_or (forest_of k') n alone) (get_or (forest_of k) n alone)
      (parent_of-forest_of k' n ∙ grown_parents n ∙ sym (parent_of-forest_of k n))
      (kids_said k' (λ l. kids_of (forest_of k) l) grown_linked n)

  pub kept_forest : node_count k' ≡ node_count k → forest_of k' ≡ forest_of k
  kept_forest len = ext_get_or alone (forest_of k') (forest_of k) (length-forest_of k' ∙ len ∙ sym (length-forest_of k)) (λ n within. grown_node n)

  pub grown_forest : node_count k' ≡ node_count k + 1 → forest_of k' ≡ forest_of k ++ alone ∷ []
  grown_forest len = ext_get_or alone (forest_of k') (forest_of k ++ alone ∷ [])
      (length-forest_of k' ∙ len ∙ ap (λ n. n + 1) (sym (length-forest_of k)) ∙ sym (length-append (forest_of k) (alone ∷ [])))
      (λ n within. grown_node n ∙ sym (at_pushed (forest_of k) n alone))

-- links with the same items are as sound
pub sound_kept : (k k' : Nodes) → IsSound k → k'.links.items ≡ k.links.items → IsSound k'
sound_kept k k' sound same =
    grown_sound k k' sound (λ n. ap (λ xs. get_or xs n no_links) same) (le_of_eq (ap length (sym same)))
    (subst (λ xs. length xs < 2 ^ 32) (sym same) sound.few)

-- and with a node more that stands alone
module _ (k k' : Nodes) (sound : IsSound k) (x : Links) (alone_x : x ≡ no_links) (pushed : k'.links.items ≡ k.links.items ++ x ∷ []) (few : node_count k < 4294967295) where
  pushed_same : (n : ℕ) → links_at k' n ≡ links_at k n
  pushed_same n = ap (λ xs. get_or xs n no_links) (pushed ∙ ap (λ y. k.links.items ++ y ∷ []) alone_x) ∙ at_pushed k.links.items n no_links

  pushed_count : node_count k' ≡ node_count k + 1
  pushed_count = ap length pushed ∙ length-append k.links.items (x ∷ [])

  pub sound_pushed : IsSound k'
  sound_pushed = grown_sound k k' sound pushed_same (omega (arith, pushed_count)) (omega (arith, pushed_count, few))

  pub forest_pushed : forest_of k' ≡ forest_of k ++ alone ∷ []
  forest_pushed = grown_forest k k' sound pushed_same (omega (arith, pushed_count)) (omega (arith, pushed_count, few)) pushed_count
