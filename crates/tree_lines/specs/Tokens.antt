-- What the lines of a document say one by one, and the table that their names make.
use Rattle.std.specs.Prelude.{ℕ, List, [], ◌∷◌, ◌++◌, IsSome, slice_get, fold, Option, Some, None, if◌then◌else◌}
use Rattle.std.specs.List.{AllByRecursion}
use Rattle.serna_kinds.specs.declared.cells.AttrPair.{AttrPair}
use Rattle.serna_kinds.specs.Apart.{AreApart}
use Rattle.serna_kinds.specs.Names.{NameParts, Space, id_of, with_name}
use Rattle.serna_kinds.specs.Qualified.{element_name, attribute_name}
use Rattle.tree_lines.specs.declared.tree.Line.{Line}
use Rattle.tree_lines.specs.declared.tree.TreeItem.{TreeItem}
use Rattle.tree_lines.specs.declared.tree.TreeItem.TheVariants as item
use Rattle.tree_lines.specs.Texts.{meant}
use Rattle.tree_lines.specs.Tags.{Tag, tag_of, is_declaration}
use Rattle.tree_lines.specs.Tags as tag
use Rattle.tree_lines.specs.Declarations.{spaces_in}
use Rattle.tree_lines.specs.Given.{pair_for}

-- an item in front of what follows it: neighbouring texts make one, and an empty one makes none
abbrev pub with_item : TreeItem → List TreeItem → List TreeItem
with_item (item.Begin name attributes line) rest = item.Begin name attributes line ∷ rest
with_item (item.Text []) rest = rest
with_item (item.Text (c ∷ cs)) [] = item.Text (c ∷ cs) ∷ []
with_item (item.Text (c ∷ cs)) (item.Begin name attributes line ∷ rest) = item.Text (c ∷ cs) ∷ item.Begin name attributes line ∷ rest
with_item (item.Text (c ∷ cs)) (item.Text t ∷ rest) = item.Text ((c ∷ cs) ++ t) ∷ rest
with_item (item.Text (c ∷ cs)) (item.Comment t ∷ rest) = item.Text (c ∷ cs) ∷ item.Comment t ∷ rest
with_item (item.Text (c ∷ cs)) (item.Finish ∷ rest) = item.Text (c ∷ cs) ∷ item.Finish ∷ rest
with_item (item.Comment t) rest = item.Comment t ∷ rest
with_item item.Finish rest = item.Finish ∷ rest

-- a line's attribute in front of those that follow; a line that is none ends them
abbrev pub pairs_by : List NameParts → List Space → Option Tag → List AttrPair → List AttrPair
pairs_by names spaces None pairs = []
pairs_by names spaces (Some (tag.Begin name)) pairs = []
pairs_by names spaces (Some (tag.Attribute name value)) pairs = pair_for names spaces name value ++ pairs
pairs_by names spaces (Some (tag.Text t)) pairs = []
pairs_by names spaces (Some (tag.Comment t)) pairs = []
pairs_by names spaces (Some (tag.Finish name)) pairs = []

-- the attributes with which lines begin
abbrev pub pairs_in : List NameParts → List Space → List Line → List AttrPair
pairs_in names spaces [] = []
pairs_in names spaces (line ∷ lines) = pairs_by names spaces (tag_of line.bytes) (pairs_in names spaces lines)

-- a line's item in front of those that follow, where the lines behind it begin with these attributes
abbrev pub items_by : List NameParts → List Space → ℕ → Option Tag → List AttrPair → List TreeItem → List TreeItem
items_by names spaces number None pairs items = items
items_by names spaces number (Some (tag.Begin name)) pairs items = item.Begin (id_of names (element_name spaces name)) pairs number ∷ items
items_by names spaces number (Some (tag.Attribute name value)) pairs items = items
items_by names spaces number (Some (tag.Text t)) pairs items = with_item (item.Text (meant t)) items
items_by names spaces number (Some (tag.Comment t)) pairs items = item.Comment (meant t) ∷ items
items_by names spaces number (Some (tag.Finish name)) pairs items = item.Finish ∷ items

-- the items of lines: an element's beginning with its attributes and the number of its line, a text, a comment, or an element's end
abbrev pub items_in : List NameParts → List Space → List Line → List TreeItem
items_in names spaces [] = []
items_in names spaces (line ∷ lines) =
    items_by names spaces line.number (tag_of line.bytes) (pairs_in names spaces lines) (items_in names spaces lines)

-- the name that a line has, if it begins an element or is an attribute that declares no namespace
abbrev pub names_by : List Space → Option Tag → List NameParts
names_by spaces None = []
names_by spaces (Some (tag.Begin name)) = element_name spaces name ∷ []
names_by spaces (Some (tag.Attribute name value)) = if is_declaration name then [] else attribute_name spaces name ∷ []
names_by spaces (Some (tag.Text t)) = []
names_by spaces (Some (tag.Comment t)) = []
names_by spaces (Some (tag.Finish name)) = []

-- the names of lines, in their order
abbrev pub line_names : List Space → List (List ℕ) → List NameParts
line_names spaces [] = []
line_names spaces (line ∷ lines) = names_by spaces (tag_of line) ++ line_names spaces lines

-- a table with further names: one that is there adds nothing, another goes last
abbrev pub with_names : List NameParts → List NameParts → List NameParts
with_names names more = fold with_name names more

-- a table with the names of a document's lines
abbrev pub names_with : List NameParts → List (List ℕ) → List NameParts
names_with names lines = with_names names (line_names (spaces_in lines) lines)

-- an element's name is one of the table's, and so are those of its attributes, which are apart
abbrev pub IsNamed : List NameParts → TreeItem → Type 0
IsNamed names (item.Begin name attributes line) = IsSome (slice_get names name.0) × AreApart names attributes
IsNamed names (item.Text t) = Unit {0}
IsNamed names (item.Comment t) = Unit {0}
IsNamed names item.Finish = Unit {0}

abbrev pub AreNamed : List NameParts → List TreeItem → Type 0
AreNamed names items = AllByRecursion (IsNamed names) items
