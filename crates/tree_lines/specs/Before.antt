-- What the lines before a line leave behind, the nearest line first: the open elements, the attributes and the text that the next line
-- may add to, and how many nodes there are.
use Rattle.std.specs.Prelude.{ℕ, ◌+◌, ◌==◌, ◌&&◌, ◌||◌, nat_lt, Bool, true, false, List, [], ◌∷◌, length, Option, Some, None, if◌then◌else◌}
use Rattle.tree_lines.specs.Texts.{meant, size_of}
use Rattle.tree_lines.specs.Tags.{Tag, tag_of}
use Rattle.tree_lines.specs.Tags as tag

-- an element that has not ended: the place of its line, from 0, and its name as it is written
pub record OpenElement : Type 0 where
  pub place : ℕ
  pub name : List ℕ

abbrev pub open_element : ℕ → List ℕ → OpenElement
open_element place name = record { place = place; name = name }

abbrev pub without_innermost : List OpenElement → List OpenElement
without_innermost [] = []
without_innermost (x ∷ outer) = outer

-- the open elements behind the line of a place, the innermost first
abbrev pub opened : ℕ → Option Tag → List OpenElement → List OpenElement
opened place None outer = outer
opened place (Some (tag.Begin name)) outer = open_element place name ∷ outer
opened place (Some (tag.Attribute name value)) outer = outer
opened place (Some (tag.Text t)) outer = outer
opened place (Some (tag.Comment t)) outer = outer
opened place (Some (tag.Finish name)) outer = without_innermost outer

abbrev pub open_elements : List (List ℕ) → List OpenElement
open_elements [] = []
open_elements (line ∷ before) = opened (length before) (tag_of line) (open_elements before)

-- an element begins at one of the lines
abbrev pub is_begin : Option Tag → Bool
is_begin None = false
is_begin (Some (tag.Begin name)) = true
is_begin (Some (tag.Attribute name value)) = false
is_begin (Some (tag.Text t)) = false
is_begin (Some (tag.Comment t)) = false
is_begin (Some (tag.Finish name)) = false

abbrev pub has_element : List (List ℕ) → Bool
has_element [] = false
has_element (line ∷ before) = is_begin (tag_of line) || has_element before

-- an attribute may stand behind the lines: directly behind an element's beginning, or behind another attribute
abbrev pub takes_attribute_behind : Option Tag → Bool
takes_attribute_behind None = false
takes_attribute_behind (Some (tag.Begin name)) = true
takes_attribute_behind (Some (tag.Attribute name value)) = true
takes_attribute_behind (Some (tag.Text t)) = false
takes_attribute_behind (Some (tag.Comment t)) = false
takes_attribute_behind (Some (tag.Finish name)) = false

abbrev pub takes_attribute : List (List ℕ) → Bool
takes_attribute [] = false
takes_attribute (line ∷ before) = takes_attribute_behind (tag_of line)

-- the names of the attributes with which the lines end, the last first
abbrev pub attributes_behind : Option Tag → List (List ℕ) → List (List ℕ)
attributes_behind None names = []
attributes_behind (Some (tag.Begin name)) names = []
attributes_behind (Some (tag.Attribute name value)) names = name ∷ names
attributes_behind (Some (tag.Text t)) names = []
attributes_behind (Some (tag.Comment t)) names = []
attributes_behind (Some (tag.Finish name)) names = []

abbrev pub attribute_names : List (List ℕ) → List (List ℕ)
attribute_names [] = []
attribute_names (line ∷ before) = attributes_behind (tag_of line) (attribute_names before)

-- how many bytes the text has with which the lines end: neighbouring text lines make one text
abbrev pub size_behind : Option Tag → ℕ → ℕ
size_behind None size = 0
size_behind (Some (tag.Begin name)) size = 0
size_behind (Some (tag.Attribute name value)) size = 0
size_behind (Some (tag.Text t)) size = size + size_of (meant t)
size_behind (Some (tag.Comment t)) size = 0
size_behind (Some (tag.Finish name)) size = 0

abbrev pub text_size : List (List ℕ) → ℕ
text_size [] = 0
text_size (line ∷ before) = size_behind (tag_of line) (text_size before)

-- a text line begins a text where it has characters and none of the text lines directly before it has any
abbrev pub begins_text : ℕ → List ℕ → Bool
begins_text size t = size == 0 && nat_lt 0 (size_of (meant t))

-- how many nodes begin at a line, behind a text of so many bytes
abbrev pub nodes_at : Option Tag → ℕ → ℕ
nodes_at None size = 0
nodes_at (Some (tag.Begin name)) size = 1
nodes_at (Some (tag.Attribute name value)) size = 0
nodes_at (Some (tag.Text t)) size = if begins_text size t then 1 else 0
nodes_at (Some (tag.Comment t)) size = 1
nodes_at (Some (tag.Finish name)) size = 0

abbrev pub node_count : List (List ℕ) → ℕ
node_count [] = 0
node_count (line ∷ before) = node_count before + nodes_at (tag_of line) (text_size before)
