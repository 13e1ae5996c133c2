-- Lists as rings of links: what it is for links to say lists. Only this crate's own code speaks of it.
use Rattle.std.specs.Prelude.{◌≡◌, ◌≢◌, ℕ, ◌<◌, ◌≤◌, zero, suc, List, [], ◌∷◌, Option, Some, None, if◌then◌else◌}
use Rattle.index_lists.specs.Lists.{times}
use Rattle.index_lists.specs.Side.{is_in}

-- a spot of a ring: the edge of list l, which is before its first place and after its last, or a place
pub data Spot : Type 0 where
  edge : ℕ → Spot
  inner : ℕ → Spot

-- the spot of list l that a link names, where no place means the edge
abbrev pub spot : ℕ → Option ℕ → Spot
spot l None = edge l
spot l (Some p) = inner p

-- the places that `next` leads to from x on, n at most
abbrev pub walk : (ℕ → Option ℕ) → ℕ → Option ℕ → List ℕ
walk next zero x = []
walk next (suc n) None = []
walk next (suc n) (Some p) = p ∷ walk next n (next p)

-- one link is set and the others stay
pub record SetsAt (old new : Spot → Option ℕ) (s : Spot) (v : Option ℕ) : Type 0 where
  pub at : new s ≡ v
  pub others : (t : Spot) → t ≢ s → new t ≡ old t

-- x is the edge of list l, or a place of list l
abbrev pub IsOnRing : (ℕ → Option ℕ) → ℕ → Option ℕ → Type 0
IsOnRing owner l None = Unit {0}
IsOnRing owner l (Some p) = owner p ≡ Some l

-- in list l, the links forward lead from x through these places and then to the edge
abbrev pub Leads : (Spot → Option ℕ) → ℕ → Option ℕ → List ℕ → Type 0
Leads after l x [] = after (spot l x) ≡ None
Leads after l x (p ∷ ps) = (after (spot l x) ≡ Some p) × Leads after l (Some p) ps

-- the links of n lists are sound: the links forward lead through each list, each link back leads
-- to where the link forward came from, and a place stands once in the list that owns it
pub record IsLinked (after before : Spot → Option ℕ) (owner : ℕ → Option ℕ) (lists : ℕ → List ℕ) (n : ℕ) : Type 0 where
  pub leads : (l : ℕ) → l < n → Leads after l None (lists l)
  pub back : (l : ℕ) (x : Option ℕ) → l < n → IsOnRing owner l x → before (spot l (after (spot l x))) ≡ x
  pub once : (l p : ℕ) → times p (lists l) ≡ (if is_in (owner p) l then 1 else 0)
  pub past : (l : ℕ) → n ≤ l → lists l ≡ []
