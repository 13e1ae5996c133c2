-- Stacks of flags as lists, the top first.
use Rattle.std.specs.Prelude.{Bool, false, List, [], ◌∷◌}

-- the top of a stack, false where it is empty
abbrev pub top : List Bool → Bool
top [] = false
top (b ∷ bs) = b

-- the stack without its top
abbrev pub below : List Bool → List Bool
below [] = []
below (b ∷ bs) = bs
