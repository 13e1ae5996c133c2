-- What a reader of lines holds between two lines: what that leaves open for the next line, and what it holds behind it (this project's own).
use Rattle.std.specs.Prelude.{◌≡◌, ℕ, ◌+◌, ◌==◌, ◌&&◌, nat_lt, Bool, true, false, List, [], ◌∷◌, ◌++◌, length, drop, Option, Some, None, is_some, if◌then◌else◌}
use Rattle.std.specs.List.{list_any}
use Rattle.serna_kinds.specs.declared.cells.NameId.{NameId}
use Rattle.serna_kinds.specs.declared.cells.AttrPair.{AttrPair}
use Rattle.serna_kinds.specs.Names.{NameParts, Space, Grows, id_of}
use Rattle.serna_kinds.specs.Qualified.{prefix_of, attribute_uri, element_name}
use Rattle.tree_lines.specs.declared.tree.Line.{Line}
use Rattle.tree_lines.specs.declared.tree.TreeItem.{TreeItem}
use Rattle.tree_lines.specs.declared.tree.TreeItem.TheVariants as item
use Rattle.tree_lines.specs.Texts.{meant, size_of}
use Rattle.tree_lines.specs.Tags.{Tag}
use Rattle.tree_lines.specs.Tags as tag
use Rattle.tree_lines.specs.Before.{OpenElement, open_element, without_innermost}
use Rattle.tree_lines.specs.LeftOpen.{LeftOpen, left_open}
use Rattle.tree_lines.specs.Faults.{fault_behind, bytes_of}
use Rattle.tree_lines.specs.Given.{pair_for}
use Rattle.tree_lines.specs.Tokens.{with_item, pairs_in, items_in, line_names, with_names}
use Rattle.tree_lines.specs.Keys.{Key, is_same_key, declaration_key, pair_key, key_of}

-- the number of an element's name and the number of its line
abbrev pub Begun : Type 0
Begun = NameId × ℕ

-- what the outermost element declares; the open elements, the innermost first; whether an element has begun; the items so far; the
-- element that began with the last line but for attributes, its attributes, and the keys of these and of its declarations, the first
-- first; the text that the next line may add to; and how many nodes there are
pub record Reading : Type 0 where
  pub spaces : List Space
  pub opened : List OpenElement
  pub has_begun : Bool
  pub items : List TreeItem
  pub begun : Option Begun
  pub pairs : List AttrPair
  pub keys : List Key
  pub text : List ℕ
  pub nodes : ℕ

-- before the first line
abbrev pub no_reading : List Space → Reading
no_reading spaces =
    record { spaces = spaces; opened = []; has_begun = false; items = []; begun = None; pairs = []; keys = []; text = []; nodes = 0 }

-- the element has an attribute of this key
abbrev pub has_key : Reading → Key → Bool
has_key r k = list_any (is_same_key k) r.keys

-- what it leaves open for the next line
abbrev pub held : Reading → LeftOpen
held r = record {
  spaces = r.spaces;
  elements = r.opened;
  has_begun = r.has_begun;
  takes_more = is_some r.begun;
  is_declared = λ name. has_key r (declaration_key name);
  is_taken = λ name. has_key r (pair_key name (attribute_uri r.spaces (prefix_of name)));
  bytes = size_of r.text;
  nodes = r.nodes;
}

-- a text as an item, and none where it is empty
abbrev pub text_item : List ℕ → List TreeItem
text_item [] = []
text_item (c ∷ cs) = item.Text (c ∷ cs) ∷ []

-- the element that has begun as an item, with these attributes
abbrev pub begun_item : Option Begun → List AttrPair → List TreeItem
begun_item None pairs = []
begun_item (Some begun) pairs = item.Begin begun.0 pairs begun.1 ∷ []

-- the element that has begun and the text that was waiting are among the items
abbrev pub ended_begun : Reading → Reading
ended_begun r = record r { items = r.items ++ begun_item r.begun r.pairs; begun = None; pairs = []; keys = [] }

abbrev pub ended_text : Reading → Reading
ended_text r = record r { items = r.items ++ text_item r.text; text = [] }

abbrev pub ended : Reading → Reading
ended r = ended_text (ended_begun r)

-- what the reader holds behind a line, whose place is `place` and whose number is `number`
abbrev pub after_begin : Reading → ℕ → ℕ → List ℕ → NameId → Reading
after_begin r place number name id =
    record (ended r) { opened = open_element place name ∷ r.opened; has_begun = true; begun = Some (id, number); nodes = r.nodes + 1 }

abbrev pub after_attribute : List NameParts → Reading → List ℕ → List ℕ → Reading
after_attribute names r name value =
    record r { pairs = r.pairs ++ pair_for names r.spaces name value; keys = r.keys ++ key_of r.spaces name ∷ [] }

-- how many nodes a text adds that goes on with the one that is waiting: one where it begins a text
abbrev pub begins : List ℕ → List ℕ → Bool
begins text more = size_of text == 0 && nat_lt 0 (size_of more)

abbrev pub text_nodes : List ℕ → List ℕ → ℕ
text_nodes text more = if begins text more then 1 else 0

abbrev pub with_text : Reading → List ℕ → Reading
with_text r more = record (ended_begun r) { text = r.text ++ more; nodes = r.nodes + text_nodes r.text more }

abbrev pub after_text : Reading → List ℕ → Reading
after_text r t = with_text r (meant t)

abbrev pub after_comment : Reading → List ℕ → Reading
after_comment r t = let e = ended r in record e { items = e.items ++ item.Comment (meant t) ∷ []; nodes = r.nodes + 1 }

abbrev pub after_finish : Reading → Reading
after_finish r = let e = ended r in record e { items = e.items ++ item.Finish ∷ []; opened = without_innermost r.opened }

abbrev pub after : List NameParts → ℕ → ℕ → Reading → Option Tag → Reading
after names place number r None = r
after names place number r (Some (tag.Begin name)) = after_begin r place number name (id_of names (element_name r.spaces name))
after names place number r (Some (tag.Attribute name value)) = after_attribute names r name value
after names place number r (Some (tag.Text t)) = after_text r t
after names place number r (Some (tag.Comment t)) = after_comment r t
after names place number r (Some (tag.Finish name)) = after_finish r

-- the items so far with those that follow, where the lines that follow begin with these attributes
abbrev pub shown : Reading → List AttrPair → List TreeItem → List TreeItem
shown r pairs rest = r.items ++ (begun_item r.begun (r.pairs ++ pairs) ++ with_item (item.Text r.text) rest)

-- the reader has read the lines before a place and none behind it: it leaves open what these lines do; the first fault of all lines is that
-- of those that are left; the items so far with those of the lines that are left are those of all lines, in the table now and in each that grows
-- from it; and so the table gets their names
pub record IsReading (spaces : List Space) (lines : List Line) (place : ℕ) (r : Reading) (old names : List NameParts) : Type 0 where
  pub before : List (List ℕ)
  pub behind : held r ≡ left_open spaces before
  pub count : length before ≡ place
  pub fault : fault_behind spaces before (bytes_of (drop place lines)) ≡ fault_behind spaces [] (bytes_of lines)
  pub items : (table : List NameParts) → Grows names table → shown r (pairs_in table spaces (drop place lines)) (items_in table spaces (drop place lines)) ≡ items_in table spaces lines
  pub table : with_names names (line_names spaces (bytes_of (drop place lines))) ≡ with_names old (line_names spaces (bytes_of lines))
  pub grows : Grows old names
