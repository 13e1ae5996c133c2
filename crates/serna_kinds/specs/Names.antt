-- Names, and the table that numbers them (Namespaces in XML 1.0: a name is a URI and a local name, written with a prefix).
use Rattle.std.specs.Prelude.{◌≡◌, ℕ, ◌++◌, ◌&&◌, Bool, false, List, [], ◌∷◌, Option, Some, None, bytes_eq, slice_get, if◌then◌else◌}
use Rattle.std.specs.List.{position_or_len, list_any}
use Rattle.serna_kinds.specs.declared.cells.NameId.{NameId}
use Rattle.serna_kinds.specs.declared.names.Name.{Name}

-- a name by the bytes of its three parts
pub record NameParts : Type 0 where
  pub uri : List ℕ
  pub local : List ℕ
  pub prefix : List ℕ

abbrev pub name_parts : List ℕ → List ℕ → List ℕ → NameParts
name_parts uri local prefix = record { uri = uri; local = local; prefix = prefix }

-- the parts of a name that the code hands out
abbrev pub parts_of : Name → NameParts
parts_of name = name_parts name.uri.now name.local.now name.prefix.now

-- an unprefixed name in no namespace
abbrev pub plain_name : List ℕ → NameParts
plain_name local = record { uri = []; local = local; prefix = [] }

abbrev pub is_same_name : NameParts → NameParts → Bool
is_same_name a b = bytes_eq a.uri b.uri && bytes_eq a.local b.local && bytes_eq a.prefix b.prefix

-- the table with a name: a name that is there adds nothing, another goes last
abbrev pub with_name : List NameParts → NameParts → List NameParts
with_name names name = if list_any (is_same_name name) names then names else names ++ name ∷ []

-- no name stands at two places
abbrev pub AreDistinct : List NameParts → Type 0
AreDistinct names = (i j : ℕ) (name : NameParts) → slice_get names i ≡ Some name → slice_get names j ≡ Some name → i ≡ j

-- the table has got further names, and no number that was given has changed
abbrev pub Grows : List NameParts → List NameParts → Type 0
Grows old new = (more : List NameParts) × (new ≡ old ++ more)

-- the number of a name: its place among the names of the table
abbrev pub id_of : List NameParts → NameParts → NameId
id_of names name = record { 0 = position_or_len (is_same_name name) names }

-- equal URIs and equal local names, whatever the prefixes (XPath 1.0, section 5.1: expanded names)
abbrev pub are_same : List NameParts → NameId → NameId → Bool
are_same names a b = elim (slice_get names a.0) [ None ↦ false | Some x ↦ elim (slice_get names b.0) [ None ↦ false | Some y ↦ bytes_eq x.uri y.uri && bytes_eq x.local y.local ] ]

-- a declared prefix and the URI that it stands for
pub record Space : Type 0 where
  pub prefix : List ℕ
  pub uri : List ℕ

abbrev pub space : List ℕ → List ℕ → Space
space prefix uri = record { prefix = prefix; uri = uri }

-- the URI of the first declaration of a prefix
abbrev pub uri_of : List Space → List ℕ → Option (List ℕ)
uri_of [] prefix = None
uri_of (space ∷ spaces) prefix = if bytes_eq space.prefix prefix then Some space.uri else uri_of spaces prefix
