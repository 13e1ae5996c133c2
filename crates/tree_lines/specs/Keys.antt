-- What tells the attributes of an element apart (Namespaces in XML 1.0, section 6.3): of an attribute that declares a namespace the prefix
-- that it declares, of any other its URI and local name, and of one whose prefix is not bound its name as it is written.
use Rattle.std.specs.Prelude.{ℕ, ◌&&◌, Bool, true, false, List, [], Option, Some, None, bytes_eq, if◌then◌else◌}
use Rattle.std.specs.Bool.{beq}
use Rattle.serna_kinds.specs.Names.{Space}
use Rattle.serna_kinds.specs.Qualified.{prefix_of, local_of, attribute_uri}
use Rattle.tree_lines.specs.Tags.{is_declaration, declared_prefix}

-- whether it declares a namespace, whether it has a URI and which, and the name behind these
pub record Key : Type 0 where
  pub declares : Bool
  pub is_bound : Bool
  pub uri : List ℕ
  pub name : List ℕ

abbrev pub key : Bool → Bool → List ℕ → List ℕ → Key
key declares is_bound uri name = record { declares = declares; is_bound = is_bound; uri = uri; name = name }

abbrev pub is_same_key : Key → Key → Bool
is_same_key a b = beq a.declares b.declares && beq a.is_bound b.is_bound && bytes_eq a.uri b.uri && bytes_eq a.name b.name

abbrev pub declaration_key : List ℕ → Key
declaration_key name = key true false [] (declared_prefix name)

-- the key of an attribute that declares no namespace, by what its prefix stands for
abbrev pub pair_key : List ℕ → Option (List ℕ) → Key
pair_key name None = key false false [] name
pair_key name (Some uri) = key false true uri (local_of name)

-- the key of an attribute by its name as it is written
abbrev pub key_of : List Space → List ℕ → Key
key_of spaces name = if is_declaration name then declaration_key name else pair_key name (attribute_uri spaces (prefix_of name))
