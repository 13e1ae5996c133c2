-- Worked examples of the definitions: lines with their first faults, and documents with what they say.
use Rattle.std.specs.Prelude.{◌≡◌, ℕ, List, [], ◌∷◌, Some, None, codes}
use Rattle.tree_lines.specs.declared.rules.LineRule.{LineRule}
use Rattle.tree_lines.specs.Faults.{fault_of}

-- the lines break this rule first, at the line of this place
abbrev pub Breaks : List (List ℕ) → ℕ → LineRule → Type 0
Breaks lines place broken = fault_of lines ≡ Some (place, broken)

abbrev pub IsFaultless : List (List ℕ) → Type 0
IsFaultless lines = fault_of lines ≡ None

-- a document with a comment, two attributes, a declared prefix and texts
abbrev pub full : List (List ℕ)
full = codes "Cbefore" ∷ codes "(p:doc" ∷ codes "Aid a\\n1" ∷ codes "Axmlns:p urn:p" ∷ codes "Ap:id 2" ∷ codes "-Oak" ∷ codes "(b" ∷ codes "-x" ∷ codes "-\\\\y" ∷ codes ")b" ∷ codes "Cin" ∷ codes ")p:doc" ∷ []
