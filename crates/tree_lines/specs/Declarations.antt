-- The namespaces that a document declares: by the attributes `xmlns` and `xmlns:PREFIX` of its outermost element (Namespaces in XML 1.0,
-- section 3; that no other element declares any is this project's own).
use Rattle.std.specs.Prelude.{ℕ, ◌==◌, Bool, false, List, [], ◌∷◌, Some, None, encode_utf8_all, if◌then◌else◌}
use Rattle.std.specs.List.{flat_map, take_while}
use Rattle.std.specs.Str.{is_utf8}
use Rattle.serna_kinds.specs.Names.{Space, space}
use Rattle.serna_kinds.specs.Qualified.{parted}
use Rattle.tree_lines.specs.Texts.{meant}
use Rattle.tree_lines.specs.Tags.{is_declaration, declared_prefix}

abbrev pub begins_with : ℕ → List ℕ → Bool
begins_with mark [] = false
begins_with mark (b ∷ rest) = b == mark

-- the `A` lines directly after the first `(` line
abbrev pub outermost_attributes : List (List ℕ) → List (List ℕ)
outermost_attributes [] = []
outermost_attributes (line ∷ lines) = if begins_with 40 line then take_while (begins_with 65) lines else outermost_attributes lines

-- what an attribute of this name and value declares
abbrev pub declared : List ℕ → List ℕ → List Space
declared name value = if is_declaration name then space (declared_prefix name) (encode_utf8_all (meant value)) ∷ [] else []

-- what an `A` line declares. One that lacks its space is faulty, and so is one with a wrong escape, and yet their prefixes count as
-- declared: a name that has one is no fault of its own. A line that is not UTF-8 declares nothing.
abbrev pub declared_behind : List ℕ → List Space
declared_behind rest = elim (parted 32 rest) [ None ↦ declared rest [] | Some parts ↦ declared parts.0 parts.1 ]

abbrev pub declared_by : List ℕ → List Space
declared_by [] = []
declared_by (b ∷ rest) = if is_utf8 (b ∷ rest) then declared_behind rest else []

-- what the lines of a document declare, in their order
abbrev pub spaces_in : List (List ℕ) → List Space
spaces_in lines = flat_map declared_by (outermost_attributes lines)
