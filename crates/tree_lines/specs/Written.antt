-- A document as it is written, line by line (this project's own).
use Rattle.std.specs.Prelude.{ℕ, List, [], ◌∷◌, ◌++◌, map}

-- an attribute by the bytes of its name and of its value, with the value's escapes
pub record Attribute : Type 0 where
  pub name : List ℕ
  pub value : List ℕ

-- neighbours as they are written: a text line, a comment, or an element with its attributes and its content, and what follows it
pub data Written : Type 0 where
  end : Written
  text : List ℕ → Written → Written
  comment : List ℕ → Written → Written
  element : List ℕ → List Attribute → Written → Written → Written

-- `ANAME VALUE`
abbrev pub attribute_bytes : Attribute → List ℕ
attribute_bytes attribute = 65 ∷ (attribute.name ++ 32 ∷ attribute.value)

-- the bytes of the lines
abbrev pub written_lines : Written → List (List ℕ)
written_lines end = []
written_lines (text t rest) = (45 ∷ t) ∷ written_lines rest
written_lines (comment t rest) = (67 ∷ t) ∷ written_lines rest
written_lines (element name attributes content rest) =
    (40 ∷ name) ∷ (map attribute_bytes attributes ++ (written_lines content ++ ((41 ∷ name) ∷ written_lines rest)))
