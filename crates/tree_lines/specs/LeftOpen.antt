-- What the lines before a line leave open for it.
use Rattle.std.specs.Prelude.{ℕ, ◌&&◌, ◌||◌, not, Bool, false, List, Option, Some, None, bytes_eq}
use Rattle.std.specs.List.{list_any}
use Rattle.serna_kinds.specs.Names.{Space}
use Rattle.serna_kinds.specs.Qualified.{prefix_of, local_of, attribute_uri}
use Rattle.tree_lines.specs.Tags.{is_declaration, declared_prefix}
use Rattle.tree_lines.specs.Before.{OpenElement, open_elements, has_element, takes_attribute, attribute_names, text_size, node_count}

-- the element declares the prefix already
abbrev pub declares_already : List (List ℕ) → List ℕ → Bool
declares_already before name =
    list_any (λ other. is_declaration other && bytes_eq (declared_prefix other) (declared_prefix name)) (attribute_names before)

-- both prefixes have a URI, and it is the same
abbrev pub have_same_uri : Option (List ℕ) → Option (List ℕ) → Bool
have_same_uri None other = false
have_same_uri (Some uri) None = false
have_same_uri (Some uri) (Some other) = bytes_eq uri other

-- two attributes are the same where their names are written alike, or where both have a URI (each prefix is bound, or there is none), and
-- URI and local name agree (Namespaces in XML 1.0, section 6.3)
abbrev pub is_same_attribute : List Space → List ℕ → List ℕ → Bool
is_same_attribute spaces a b =
    bytes_eq a b || (have_same_uri (attribute_uri spaces (prefix_of a)) (attribute_uri spaces (prefix_of b)) && bytes_eq (local_of a) (local_of b))

-- the element has the same attribute already
abbrev pub has_already : List Space → List (List ℕ) → List ℕ → Bool
has_already spaces before name = list_any (λ other. not (is_declaration other) && is_same_attribute spaces name other) (attribute_names before)

-- what the outermost element declares; the open elements, the innermost first, and whether an element has begun; whether an attribute may
-- come next, whether the element declares already what one of a name would declare, and whether it has the same attribute already; how many
-- bytes the text has that a text would go on with; and how many nodes there are
pub record LeftOpen : Type 0 where
  pub spaces : List Space
  pub elements : List OpenElement
  pub has_begun : Bool
  pub takes_more : Bool
  pub is_declared : List ℕ → Bool
  pub is_taken : List ℕ → Bool
  pub bytes : ℕ
  pub nodes : ℕ

-- what lines leave open, the nearest first
abbrev pub left_open : List Space → List (List ℕ) → LeftOpen
left_open spaces before = record {
  spaces = spaces;
  elements = open_elements before;
  has_begun = has_element before;
  takes_more = takes_attribute before;
  is_declared = λ name. declares_already before name;
  is_taken = λ name. has_already spaces before name;
  bytes = text_size before;
  nodes = node_count before;
}
