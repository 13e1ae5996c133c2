-- What a line says, by its first byte (this project's own): `(NAME` begins an element, `ANAME VALUE` is an attribute of it, `-TEXT` is text,
-- `CTEXT` a comment, and `)NAME` ends the innermost element.
use Rattle.std.specs.Prelude.{ℕ, ◌==◌, ◌||◌, Bool, List, [], ◌∷◌, Option, Some, None, bytes_eq, codes, if◌then◌else◌}
use Rattle.serna_kinds.specs.Qualified.{parted, prefix_of, local_of}

pub data Tag : Type 0 where
  Begin : List ℕ → Tag
  Attribute : List ℕ → List ℕ → Tag
  Text : List ℕ → Tag
  Comment : List ℕ → Tag
  Finish : List ℕ → Tag

-- an attribute's name and value stand on both sides of the first space
abbrev pub attribute_tag : List ℕ → Option Tag
attribute_tag rest = elim (parted 32 rest) [ None ↦ None | Some parts ↦ Some (Attribute parts.0 parts.1) ]

-- what a line says; None for one with another first byte, and for an attribute without its space
abbrev pub tag_of : List ℕ → Option Tag
tag_of [] = None
tag_of (b ∷ rest) =
    if b == 40 then Some (Begin rest)
    else if b == 65 then attribute_tag rest
    else if b == 45 then Some (Text rest)
    else if b == 67 then Some (Comment rest)
    else if b == 41 then Some (Finish rest)
    else None

-- the name of an attribute that declares a namespace: `xmlns`, or `xmlns:` and a prefix (Namespaces in XML 1.0, section 3)
abbrev pub xmlns : List ℕ
xmlns = codes "xmlns"

abbrev pub is_declaration : List ℕ → Bool
is_declaration name = bytes_eq name xmlns || bytes_eq (prefix_of name) xmlns

-- the prefix that such an attribute declares; `xmlns` alone declares the default namespace
abbrev pub declared_prefix : List ℕ → List ℕ
declared_prefix name = if bytes_eq name xmlns then [] else local_of name
