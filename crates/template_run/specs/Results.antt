-- The result of one instance as it is kept: a fragment whose holes are numbered, and what they ask for (this project's own).
use Rattle.std.specs.Prelude.{◌≡◌, ℕ, ◌++◌, List, [], ◌∷◌, Option, Some, None}
use Rattle.result_origin.specs.Parts.{ResultPart, Says, Hole, holes, numbered}
use Rattle.instance_store.specs.declared.request.Asked.{Asked}

-- parts whose holes ask for these, in order
abbrev pub asking : List (ResultPart ℕ) → List Asked → List (ResultPart Asked)
asking [] asked = []
asking (Says mark ∷ parts) asked = Says mark ∷ asking parts asked
asking (Hole k ∷ parts) [] = []
asking (Hole k ∷ parts) (one ∷ asked) = Hole one ∷ asking parts asked

-- the holes of a fragment are numbered from 0, in order, and what hole k asks for stands at place k
pub record AreAsked (fragment : List (ResultPart ℕ)) (asked : List Asked) : Type 0 where
  pub numbers : fragment ≡ numbered 0 (asking fragment asked)
  pub requests : asked ≡ holes (asking fragment asked)

-- a result has grown by what a body gives, which has no type fault
abbrev pub GrowsBy : List (ResultPart Asked) → List (ResultPart Asked) → Option (List (ResultPart Asked)) → Type 0
GrowsBy old new None = ⊥
GrowsBy old new (Some parts) = new ≡ old ++ parts
