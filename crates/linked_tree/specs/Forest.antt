-- An arena of nodes as contracts see it: the parent and the children of each node. This project's own.
use Rattle.std.specs.Prelude.{◌≡◌, ◌≢◌, ℕ, ◌<◌, ◌^◌, zero, suc, List, [], ◌∷◌, length, Option, Some, None, IsSome, ◌==◌, if◌then◌else◌, slice_index_or}
use Rattle.index_lists.specs.Lists.{times, from_first}
use Rattle.index_lists.specs.Side.{is_in}

-- a node: the node that it is a child of, if any, and its own children in their order
pub record Node : Type 0 where
  pub parent : Option ℕ
  pub kids : List ℕ

-- a node that is no child and has none
abbrev pub alone : Node
alone = record { parent = None; kids = [] }

-- how many nodes were made; their numbers are those below
abbrev pub count : List Node → ℕ
count t = length t

-- the parent, and the children, of node n; of a number that no node has, none
abbrev pub parent_of : List Node → ℕ → Option ℕ
parent_of t n = (slice_index_or t n alone).parent

abbrev pub kids_of : List Node → ℕ → List ℕ
kids_of t n = (slice_index_or t n alone).kids

-- the node k steps up from x
abbrev pub climb : (ℕ → Option ℕ) → ℕ → Option ℕ → Option ℕ
climb parent zero x = x
climb parent (suc k) None = None
climb parent (suc k) (Some n) = climb parent k (parent n)

-- the node k levels above node n, which is n itself for k = 0
abbrev pub above : List Node → ℕ → ℕ → Option ℕ
above t k n = climb (parent_of t) k (Some n)

-- node n is neither node p nor above it, so that it may become a child of p
abbrev pub IsApart : List Node → ℕ → ℕ → Type 0
IsApart t n p = (k : ℕ) → above t k p ≢ Some n

-- what holds of every arena: a node stands once among the children of its parent and among those of
-- no other node, and no node is above itself
pub record IsForest (t : List Node) : Type 0 where
  pub once : (p n : ℕ) → times n (kids_of t p) ≡ (if is_in (parent_of t n) p then 1 else 0)
  pub no_ring : (n k : ℕ) → above t (suc k) n ≢ Some n
  pub few : count t < 2 ^ 32

-- but for the children of node p and the parent of node n, the new arena is the old one
pub record IsSameBut (old new : List Node) (p n : ℕ) : Type 0 where
  pub kids : (q : ℕ) → q ≢ p → kids_of new q ≡ kids_of old q
  pub parents : (m : ℕ) → m ≢ n → parent_of new m ≡ parent_of old m
  pub count : length new ≡ length old

-- the list with n right behind the first q; the list itself where there is no q
abbrev pub insert_behind : ℕ → ℕ → List ℕ → List ℕ
insert_behind q n [] = []
insert_behind q n (x ∷ xs) = if x == q then x ∷ n ∷ xs else x ∷ insert_behind q n xs

-- the last node of a list; none in an empty one
abbrev pub last_of : List ℕ → Option ℕ
last_of [] = None
last_of (x ∷ []) = Some x
last_of (x ∷ (y ∷ xs)) = last_of (y ∷ xs)

-- the children of p, from n on; none where p is none
abbrev pub kids_of_from : List Node → ℕ → Option ℕ → List ℕ
kids_of_from t n None = []
kids_of_from t n (Some p) = from_first n (kids_of t p)

-- x and the siblings behind it
abbrev pub kids_from : List Node → Option ℕ → List ℕ
kids_from t None = []
kids_from t (Some n) = kids_of_from t n (parent_of t n)

-- x is none or a child
abbrev pub IsLinkedKid : List Node → Option ℕ → Type 0
IsLinkedKid t x = (n : ℕ) → x ≡ Some n → IsSome (parent_of t n)
