-- Names as they are written, and what their prefixes stand for (Namespaces in XML 1.0).
use Rattle.std.specs.Prelude.{ℕ, ◌==◌, ◌&&◌, ◌||◌, nat_le, nat_lt, Bool, false, List, [], ◌∷◌, length, Option, Some, None, bytes_eq, codes, if◌then◌else◌}
use Rattle.std.specs.List.{list_all, position_or_len, before_first, after_first}
use Rattle.serna_kinds.specs.Names.{NameParts, name_parts, Space, uri_of}

abbrev pub is_letter : ℕ → Bool
is_letter b = (nat_le 65 b && nat_le b 90) || (nat_le 97 b && nat_le b 122)

abbrev pub is_digit : ℕ → Bool
is_digit b = nat_le 48 b && nat_le b 57

-- a local name begins with an ASCII letter, `_` or a byte of a character past ASCII, and goes on with these, digits, `-` and `.` (after
-- section 2, NCName)
abbrev pub begins_name : ℕ → Bool
begins_name b = is_letter b || b == 95 || nat_le 128 b

abbrev pub continues_name : ℕ → Bool
continues_name b = begins_name b || is_digit b || b == 45 || b == 46

abbrev pub is_local_name : List ℕ → Bool
is_local_name [] = false
is_local_name (b ∷ bs) = begins_name b && list_all continues_name bs

-- what stands before the first such byte, and behind it; None where there is none
abbrev pub parted : ℕ → List ℕ → Option (List ℕ × List ℕ)
parted mark text =
    if nat_lt (position_or_len (λ b. b == mark) text) (length text) then Some (before_first (λ b. b == mark) text, after_first (λ b. b == mark) text) else None

-- the parts of a name at its first colon: a name without one has no prefix (section 4, QName)
abbrev pub prefix_of : List ℕ → List ℕ
prefix_of name = elim (parted 58 name) [ None ↦ [] | Some parts ↦ parts.0 ]

abbrev pub local_of : List ℕ → List ℕ
local_of name = elim (parted 58 name) [ None ↦ name | Some parts ↦ parts.1 ]

-- a local name, or a prefix, a colon and a local name
abbrev pub is_name : List ℕ → Bool
is_name name = elim (parted 58 name) [ None ↦ is_local_name name | Some parts ↦ is_local_name parts.0 && is_local_name parts.1 ]

-- the prefix `xml`, and the URI that it alone always stands for (section 3)
abbrev pub xml_prefix : List ℕ
xml_prefix = codes "xml"

abbrev pub xml_uri : List ℕ
xml_uri = codes "http://www.w3.org/XML/1998/namespace"

-- the URI that a prefix stands for; None where nothing declares it
abbrev pub uri_for : List Space → List ℕ → Option (List ℕ)
uri_for spaces prefix = if bytes_eq prefix xml_prefix then Some xml_uri else uri_of spaces prefix

-- the URI of an element's name of this prefix: without one it is the default namespace, or none where that is not declared (section 6.2)
abbrev pub element_uri : List Space → List ℕ → Option (List ℕ)
element_uri spaces [] = elim (uri_of spaces []) [ None ↦ Some [] | Some uri ↦ Some uri ]
element_uri spaces (b ∷ bs) = uri_for spaces (b ∷ bs)

-- the URI of an attribute's name of this prefix: without one it has no namespace (section 6.2)
abbrev pub attribute_uri : List Space → List ℕ → Option (List ℕ)
attribute_uri spaces [] = Some []
attribute_uri spaces (b ∷ bs) = uri_for spaces (b ∷ bs)

abbrev pub uri_or_none : Option (List ℕ) → List ℕ
uri_or_none None = []
uri_or_none (Some uri) = uri

-- the parts of a name as it is written, of an element and of an attribute; a prefix that is not declared stands for no URI here
abbrev pub element_name : List Space → List ℕ → NameParts
element_name spaces name = name_parts (uri_or_none (element_uri spaces (prefix_of name))) (local_of name) (prefix_of name)

abbrev pub attribute_name : List Space → List ℕ → NameParts
attribute_name spaces name = name_parts (uri_or_none (attribute_uri spaces (prefix_of name))) (local_of name) (prefix_of name)

-- equal URIs and equal local names (section 2: expanded names)
abbrev pub is_same_expanded : NameParts → NameParts → Bool
is_same_expanded a b = bytes_eq a.uri b.uri && bytes_eq a.local b.local
