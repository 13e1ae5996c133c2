-- A tree as `read_tree` hands it on, without numbers of nodes: elements and attributes by the numbers of their names, texts by their
-- characters, and with each element the number of its line.
use Rattle.std.specs.Prelude.{◌≢◌, ℕ, ◌+◌, ◌≤◌, List, [], ◌∷◌, ◌++◌, map, length, drop, slice_index, max, if◌then◌else◌}
use Rattle.std.specs.List.{AllByRecursion, flat_map}
use Rattle.serna_kinds.specs.declared.cells.NameId.{NameId}
use Rattle.serna_kinds.specs.declared.cells.AttrPair.{AttrPair}
use Rattle.serna_kinds.specs.Limits.{text_limit, node_limit, depth_limit}
use Rattle.serna_kinds.specs.Names.{NameParts, Space, id_of}
use Rattle.serna_kinds.specs.Qualified.{element_name, attribute_name}
use Rattle.tree_lines.specs.declared.tree.Line.{Line}
use Rattle.tree_lines.specs.declared.tree.TreeItem.{TreeItem}
use Rattle.tree_lines.specs.declared.tree.TreeItem.TheVariants as item
use Rattle.tree_lines.specs.Texts.{meant, size_of}
use Rattle.tree_lines.specs.Tags.{is_declaration}
use Rattle.tree_lines.specs.Declarations.{spaces_in}
use Rattle.tree_lines.specs.Written.{Written, Attribute, written_lines}
use Rattle.tree_lines.specs.Written as written

-- neighbours: a text, a comment, or an element with its attributes, the number of its line and its content, and what follows it
pub data Given : Type 0 where
  end : Given
  text : List ℕ → Given → Given
  comment : List ℕ → Given → Given
  element : NameId → List AttrPair → ℕ → Given → Given → Given

-- a tree's items in document order, each element with its end
abbrev pub items_of : Given → List TreeItem
items_of end = []
items_of (text t rest) = item.Text t ∷ items_of rest
items_of (comment t rest) = item.Comment t ∷ items_of rest
items_of (element name attributes line content rest) = item.Begin name attributes line ∷ (items_of content ++ (item.Finish ∷ items_of rest))

-- the tree with 0 for the number of each line
abbrev pub without_lines : Given → Given
without_lines end = end
without_lines (text t rest) = text t (without_lines rest)
without_lines (comment t rest) = comment t (without_lines rest)
without_lines (element name attributes line content rest) = element name attributes 0 (without_lines content) (without_lines rest)

-- how many nodes there are
abbrev pub count_of : Given → ℕ
count_of end = 0
count_of (text t rest) = 1 + count_of rest
count_of (comment t rest) = 1 + count_of rest
count_of (element name attributes line content rest) = 1 + count_of content + count_of rest

-- how deep elements stand in one another
abbrev pub depth_of : Given → ℕ
depth_of end = 0
depth_of (text t rest) = depth_of rest
depth_of (comment t rest) = depth_of rest
depth_of (element name attributes line content rest) = max (1 + depth_of content) (depth_of rest)

abbrev pub BeginsNoText : Given → Type 0
BeginsNoText end = Unit {0}
BeginsNoText (text t rest) = ⊥
BeginsNoText (comment t rest) = Unit {0}
BeginsNoText (element name attributes line content rest) = Unit {0}

-- a text or an attribute's value has no more bytes than are allowed
abbrev pub IsShort : List ℕ → Type 0
IsShort t = size_of t ≤ text_limit

-- each text has characters, is short, and has no text as its neighbour; each attribute's value is short
abbrev pub AreTexts : Given → Type 0
AreTexts end = Unit {0}
AreTexts (text t rest) = (t ≢ []) × IsShort t × BeginsNoText rest × AreTexts rest
AreTexts (comment t rest) = AreTexts rest
AreTexts (element name attributes line content rest) = AllByRecursion (λ (pair : AttrPair). IsShort pair.value) attributes × AreTexts content × AreTexts rest

-- one element, with comments beside it
abbrev pub AreComments : Given → Type 0
AreComments end = Unit {0}
AreComments (text t rest) = ⊥
AreComments (comment t rest) = AreComments rest
AreComments (element name attributes line content rest) = ⊥

abbrev pub IsTop : Given → Type 0
IsTop end = ⊥
IsTop (text t rest) = ⊥
IsTop (comment t rest) = IsTop rest
IsTop (element name attributes line content rest) = AreComments rest

-- one element with comments beside it, within the limits of a section
pub record IsWhole (given : Given) : Type 0 where
  pub top : IsTop given
  pub texts : AreTexts given
  pub few : count_of given ≤ node_limit
  pub shallow : depth_of given ≤ depth_limit

-- a text in front of what follows it: neighbouring texts make one, and an empty one makes none
abbrev pub with_text : List ℕ → Given → Given
with_text [] rest = rest
with_text (c ∷ cs) end = text (c ∷ cs) end
with_text (c ∷ cs) (text t rest) = text ((c ∷ cs) ++ t) rest
with_text (c ∷ cs) (comment t rest) = text (c ∷ cs) (comment t rest)
with_text (c ∷ cs) (element name attributes line content rest) = text (c ∷ cs) (element name attributes line content rest)

-- an attribute with its name's number and its value's characters; one that declares a namespace is none
abbrev pub pair_for : List NameParts → List Space → List ℕ → List ℕ → List AttrPair
pair_for names spaces name value =
    if is_declaration name then [] else record { name = id_of names (attribute_name spaces name); value = meant value } ∷ []

abbrev pub pair_in : List NameParts → List Space → Attribute → List AttrPair
pair_in names spaces attribute = pair_for names spaces attribute.name attribute.value

-- the tree of neighbours as they are written, whose lines have these numbers in their order: each name by its number in the table, each
-- text by the characters that it means
abbrev pub given_in : List NameParts → List Space → List ℕ → Written → Given
given_in names spaces numbers written.end = end
given_in names spaces numbers (written.text t rest) = with_text (meant t) (given_in names spaces (drop 1 numbers) rest)
given_in names spaces numbers (written.comment t rest) = comment (meant t) (given_in names spaces (drop 1 numbers) rest)
given_in names spaces numbers (written.element name attributes content rest) =
    let inner = drop (1 + length attributes) numbers in
    let behind = drop (1 + length (written_lines content)) inner in
    element (id_of names (element_name spaces name)) (flat_map (pair_in names spaces) attributes) (slice_index numbers 0)
    (given_in names spaces inner content) (given_in names spaces behind rest)

-- what a document declares, and its tree, where its lines have these numbers
abbrev pub spaces_of : Written → List Space
spaces_of document = spaces_in (written_lines document)

abbrev pub given_of : List NameParts → List ℕ → Written → Given
given_of names numbers document = given_in names (spaces_of document) numbers document

-- the numbers of lines
abbrev pub numbers_of : List Line → List ℕ
numbers_of lines = map (λ (line : Line). line.number) lines
