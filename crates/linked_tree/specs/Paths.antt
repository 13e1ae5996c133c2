-- Paths from a root to a node, and document order. This project's own words for section 5 of XPath 1.0:
-- document order is that in which the nodes begin in the text, so that a node stands before its children,
-- and with all below it before the siblings behind it.
use Rattle.std.specs.Prelude.{◌≡◌, ℕ, Bool, true, false, List, [], ◌∷◌, Option, Some, None, ◌==◌, nat_lt, if◌then◌else◌, IsTrue, slice_get}
use Rattle.linked_tree.specs.Forest.{Node, parent_of, kids_of}

-- the node that the places lead to, on the way down from x
abbrev pub follow : List Node → Option ℕ → List ℕ → Option ℕ
follow t x [] = x
follow t None (place ∷ path) = None
follow t (Some n) (place ∷ path) = follow t (slice_get (kids_of t n) place) path

-- this path leads from this root down to node n
pub record IsPath (t : List Node) (root : ℕ) (path : List ℕ) (n : ℕ) : Type 0 where
  pub top : parent_of t root ≡ None
  pub leads : follow t (Some root) path ≡ Some n

-- whether the first path stands before the second in document order: it is a proper front of it, or the
-- first place at which they differ is the lesser
abbrev pub is_path_before : List ℕ → List ℕ → Bool
is_path_before [] [] = false
is_path_before [] (y ∷ ys) = true
is_path_before (x ∷ xs) [] = false
is_path_before (x ∷ xs) (y ∷ ys) = if x == y then is_path_before xs ys else nat_lt x y

-- both nodes stand under one root, and node a before node b in document order
pub record IsBefore (t : List Node) (a b : ℕ) : Type 0 where
  pub root : ℕ
  pub path : List ℕ
  pub other : List ℕ
  pub to_a : IsPath t root path a
  pub to_b : IsPath t root other b
  pub order : IsTrue (is_path_before path other)
