-- Which trees can be written so that they read back as the same tree.
use Rattle.std.specs.Prelude.{◌≡◌, ◌≢◌, ℕ, ◌==◌, ◌&&◌, ◌||◌, not, Bool, false, List, [], ◌∷◌, ◌++◌, Some, slice_get, IsTrue, is_some, encode_utf8_all}
use Rattle.std.specs.List.{AllByRecursion, list_all, filter}
use Rattle.std.specs.Str.{chars, is_utf8}
use Rattle.serna_kinds.specs.declared.cells.NameId.{NameId}
use Rattle.serna_kinds.specs.declared.cells.AttrPair.{AttrPair}
use Rattle.serna_kinds.specs.Apart.{AreApart}
use Rattle.serna_kinds.specs.Names.{NameParts, Space, Grows}
use Rattle.serna_kinds.specs.Qualified.{prefix_of, is_local_name, is_name, element_uri, attribute_uri, element_name, attribute_name}
use Rattle.tree_lines.specs.Texts.{is_allowed, is_line}
use Rattle.tree_lines.specs.Tags.{is_declaration}
use Rattle.tree_lines.specs.Written.{Written, Attribute, written_lines}
use Rattle.tree_lines.specs.Written as written
use Rattle.tree_lines.specs.Documents.{IsDocument}
use Rattle.tree_lines.specs.Given.{Given, without_lines, IsWhole, spaces_of, given_of}
use Rattle.tree_lines.specs.Given as given
use Rattle.tree_lines.specs.Canonical.{spelled, document_lines}

-- characters that a line may have, LF and tabs, which are written by their escapes
abbrev pub is_writable : ℕ → Bool
is_writable c = is_allowed c || c == 10 || c == 9

abbrev pub IsText : List ℕ → Type 0
IsText text = IsTrue (is_utf8 (encode_utf8_all text) && list_all is_writable text)

-- the number of an element's name that is written and, with these declarations, stands for the same name when it is read
pub record IsElementName (names : List NameParts) (spaces : List Space) (id : NameId) : Type 0 where
  pub parts : NameParts
  pub stored : slice_get names id.0 ≡ Some parts
  pub good : IsTrue (is_name (spelled parts) && is_line (spelled parts))
  pub bound : IsTrue (is_some (element_uri spaces (prefix_of (spelled parts))))
  pub same : element_name spaces (spelled parts) ≡ parts

-- and of an attribute's
pub record IsAttributeName (names : List NameParts) (spaces : List Space) (id : NameId) : Type 0 where
  pub parts : NameParts
  pub stored : slice_get names id.0 ≡ Some parts
  pub good : IsTrue (is_name (spelled parts) && is_line (spelled parts))
  pub pair : is_declaration (spelled parts) ≡ false
  pub bound : IsTrue (is_some (attribute_uri spaces (prefix_of (spelled parts))))
  pub same : attribute_name spaces (spelled parts) ≡ parts

abbrev pub IsPair : List NameParts → List Space → AttrPair → Type 0
IsPair names spaces pair = IsAttributeName names spaces pair.name × IsText pair.value

-- each name reads back as itself, the attributes of an element are apart, and each text and comment is written
abbrev pub AreNodes : List NameParts → List Space → Given → Type 0
AreNodes names spaces given.end = Unit {0}
AreNodes names spaces (given.text t rest) = IsText t × AreNodes names spaces rest
AreNodes names spaces (given.comment t rest) = IsText t × AreNodes names spaces rest
AreNodes names spaces (given.element name attributes line content rest) =
    IsElementName names spaces name × AllByRecursion (IsPair names spaces) attributes × AreApart names attributes
    × AreNodes names spaces content × AreNodes names spaces rest

-- a declared prefix is a local name whose URI is not empty, or it is empty for the default namespace
abbrev pub IsPrefix : List ℕ → List ℕ → Type 0
IsPrefix [] uri = Unit {0}
IsPrefix (b ∷ prefix) uri = IsTrue (is_local_name (b ∷ prefix) && is_line (b ∷ prefix)) × (uri ≢ [])

-- no prefix is declared twice, and each URI is written
abbrev pub AreSpaces : List Space → Type 0
AreSpaces [] = Unit {0}
AreSpaces (space ∷ spaces) =
    IsPrefix space.prefix space.uri × IsTrue (is_utf8 space.uri) × IsText (chars space.uri)
    × AllByRecursion (λ (other : Space). space.prefix ≢ other.prefix) spaces × AreSpaces spaces

pub record IsWritable (names : List NameParts) (spaces : List Space) (tree : Given) : Type 0 where
  pub whole : IsWhole tree
  pub nodes : AreNodes names spaces tree
  pub declared : AreSpaces spaces

-- the lines that are written of the tree are those of a document that declares the same, and the document's tree is this one but for the
-- numbers of the lines, in this table and in each that grows from it, and whatever these numbers are
pub record ReadsBack (names : List NameParts) (spaces : List Space) (tree : Given) : Type 0 where
  pub document : Written
  pub built : IsDocument document
  pub lines : document_lines names spaces tree ≡ written_lines document
  pub declared : spaces_of document ≡ spaces
  pub same : (table : List NameParts) → Grows names table → (numbers : List ℕ) → without_lines (given_of table numbers document) ≡ without_lines tree

-- a text line in front of what follows it: neighbouring text lines make one, and an empty one makes none
abbrev pub with_line : List ℕ → Written → Written
with_line [] rest = rest
with_line (b ∷ bs) written.end = written.text (b ∷ bs) written.end
with_line (b ∷ bs) (written.text t rest) = written.text ((b ∷ bs) ++ t) rest
with_line (b ∷ bs) (written.comment t rest) = written.text (b ∷ bs) (written.comment t rest)
with_line (b ∷ bs) (written.element name attributes content rest) = written.text (b ∷ bs) (written.element name attributes content rest)

-- the attributes that declare namespaces, and then the others
abbrev pub declarations_first : List Attribute → List Attribute
declarations_first attributes =
    filter (λ (attribute : Attribute). is_declaration attribute.name) attributes ++ filter (λ (attribute : Attribute). not (is_declaration attribute.name)) attributes

-- a document as it is written again: its text lines joined, and its declarations in front of its other attributes
abbrev pub rewritten : Written → Written
rewritten written.end = written.end
rewritten (written.text t rest) = with_line t (rewritten rest)
rewritten (written.comment t rest) = written.comment t (rewritten rest)
rewritten (written.element name attributes content rest) = written.element name (declarations_first attributes) (rewritten content) (rewritten rest)
