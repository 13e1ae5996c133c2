-- How the links of the nodes say a forest. Only this crate's own code speaks of links.
use Rattle.std.specs.Prelude.{◌≡◌, ◌≢◌, ℕ, ◌<◌, ◌^◌, suc, List, ◌∷◌, map, length, Option, Some, None, slice_index_or}
use Rattle.linked_tree.specs.declared.links.Links.{Links}
use Rattle.linked_tree.specs.declared.links.Nodes.{Nodes}
use Rattle.linked_tree.specs.Forest.{Node, kids_of, climb, insert_behind}
use Rattle.index_lists.specs.Rings.{Spot, edge, inner, spot, walk, SetsAt, IsLinked}

-- the links of a node that stands alone
abbrev pub no_links : Links
no_links = record { parent = None; first = None; last = None; previous = None; next = None }

abbrev pub node_count : Nodes → ℕ
node_count k = length k.links.items

abbrev pub links_at : Nodes → ℕ → Links
links_at k n = slice_index_or k.links.items n no_links

-- the parent of a node
abbrev pub parent_in : Nodes → ℕ → Option ℕ
parent_in k n = (links_at k n).parent

-- where the link forward, and the link back, lead from a spot of a list of children: the edge of the
-- list of node l is a spot, and each child
abbrev pub after_in : Nodes → Spot → Option ℕ
after_in k (edge l) = (links_at k l).first
after_in k (inner n) = (links_at k n).next

abbrev pub before_in : Nodes → Spot → Option ℕ
before_in k (edge l) = (links_at k l).last
before_in k (inner n) = (links_at k n).previous

-- the node that these links say
abbrev pub node_in : Nodes → Links → Node
node_in k links = record { parent = links.parent; kids = walk (λ n. (links_at k n).next) (node_count k) links.first }

-- the forest that the links say
abbrev pub forest_of : Nodes → List Node
forest_of k = map (node_in k) k.links.items

-- the invariant of an arena: its links are sound, and no node is above itself
pub record IsSound (k : Nodes) : Type 0 where
  pub linked : IsLinked (after_in k) (before_in k) (parent_in k) (λ l. kids_of (forest_of k) l) (node_count k)
  pub no_ring : (n m : ℕ) → climb (parent_in k) (suc m) (Some n) ≢ Some n
  pub few : node_count k < 2 ^ 32

-- the list with n behind a spot of it, the edge or a child
abbrev pub behind : Option ℕ → ℕ → List ℕ → List ℕ
behind None n xs = n ∷ xs
behind (Some q) n xs = insert_behind q n xs

-- where a join leaves the links
pub record Joins (old new : Nodes) (l : ℕ) (before after : Option ℕ) : Type 0 where
  pub forward : SetsAt (after_in old) (after_in new) (spot l before) after
  pub back : SetsAt (before_in old) (before_in new) (spot l after) before
  pub parents : (p : ℕ) → parent_in new p ≡ parent_in old p
  pub count : node_count new ≡ node_count old

-- where a new parent of a node leaves the links
pub record SetsParent (old new : Nodes) (p : ℕ) (to : Option ℕ) : Type 0 where
  pub parent : parent_in new p ≡ to
  pub other_parents : (q : ℕ) → q ≢ p → parent_in new q ≡ parent_in old q
  pub forward : (t : Spot) → after_in new t ≡ after_in old t
  pub back : (t : Spot) → before_in new t ≡ before_in old t
  pub count : node_count new ≡ node_count old
