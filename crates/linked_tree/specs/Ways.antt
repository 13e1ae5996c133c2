-- The ways up from nodes, by which paths and document order are found. Only this crate's own code speaks of
-- them.
use Rattle.std.specs.Prelude.{◌≡◌, ◌≢◌, ℕ, ◌<◌, List, Some, None, slice_get}
use Rattle.linked_tree.specs.Forest.{Node, parent_of, kids_of, above}

-- there are d levels above node n
pub record IsDepth (t : List Node) (n d : ℕ) : Type 0 where
  pub root : ℕ
  pub top : above t d n ≡ Some root
  pub ends : parent_of t root ≡ None

-- on the ways up from x and y, p and q are at one level and differ, and have one parent or are both roots
pub record IsParting (t : List Node) (x y p q : ℕ) : Type 0 where
  pub levels : ℕ
  pub above_x : above t levels x ≡ Some p
  pub above_y : above t levels y ≡ Some q
  pub apart : p ≢ q
  pub parents : parent_of t p ≡ parent_of t q

-- x and y are children of one node, and x stands before y
pub record IsEarlier (t : List Node) (x y : ℕ) : Type 0 where
  pub parent : ℕ
  pub place : ℕ
  pub later : ℕ
  pub own : parent_of t x ≡ Some parent
  pub at : slice_get (kids_of t parent) place ≡ Some x
  pub behind : slice_get (kids_of t parent) later ≡ Some y
  pub order : place < later
