-- How four bytes say a node or none. Only this crate's own code speaks of it.
use Rattle.std.specs.Prelude.{◌≡◌, ℕ, zero, suc, Option, Some, None, refl}

-- the node that a code stands for: none for 0, and else the node one below it
abbrev pub node_of : ℕ → Option ℕ
node_of zero = None
node_of (suc n) = Some n

-- the code of a node or of none
abbrev pub code_of : Option ℕ → ℕ
code_of None = 0
code_of (Some n) = suc n

pub code_of-node_of : (c : ℕ) → code_of (node_of c) ≡ c
code_of-node_of zero = refl
code_of-node_of (suc n) = refl
