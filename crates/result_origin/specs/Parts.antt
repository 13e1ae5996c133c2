-- A result as what it says one by one (XSLT 1.0, section 7; where each piece comes from is this project's own).
use Rattle.std.specs.Prelude.{ℕ, ◌+◌, List, [], ◌∷◌, ◌++◌}
use Rattle.serna_kinds.specs.declared.cells.NameId.{NameId}
use Rattle.result_origin.specs.declared.origin.Origin.{Origin}

-- a text with where its start comes from; an element begins, by the rule of a number; an attribute begins, and ends, what stands between
-- being its value; the innermost element ends
pub data Mark : Type 0 where
  Run : List ℕ → Origin → Mark
  Begin : NameId → ℕ → Mark
  Attr : NameId → Mark
  AttrEnd : Mark
  Finish : Mark

-- a mark, or a hole that another result is to fill
pub data ResultPart (H : Type 0) : Type 0 where
  Says : Mark → ResultPart H
  Hole : H → ResultPart H

-- what stands in the holes, in order
abbrev pub holes : {H : Type 0} → List (ResultPart H) → List H
holes [] = []
holes (Says mark ∷ parts) = holes parts
holes (Hole hole ∷ parts) = hole ∷ holes parts

-- the parts with their holes numbered from a number on
abbrev pub numbered : {H : Type 0} → ℕ → List (ResultPart H) → List (ResultPart ℕ)
numbered k [] = []
numbered k (Says mark ∷ parts) = Says mark ∷ numbered k parts
numbered k (Hole hole ∷ parts) = Hole k ∷ numbered (k + 1) parts

-- the marks, with each hole filled
abbrev pub filled : {H : Type 0} → (H → List Mark) → List (ResultPart H) → List Mark
filled fill [] = []
filled fill (Says mark ∷ parts) = mark ∷ filled fill parts
filled fill (Hole hole ∷ parts) = fill hole ++ filled fill parts

-- marks alone, without a hole
abbrev pub said : List Mark → List (ResultPart ℕ)
said [] = []
said (mark ∷ marks) = Says mark ∷ said marks

-- what parts say, a hole saying nothing
abbrev pub marks_in : {H : Type 0} → List (ResultPart H) → List Mark
marks_in parts = filled (λ hole. []) parts
