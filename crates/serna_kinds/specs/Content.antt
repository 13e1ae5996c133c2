-- What a cell of a source holds, and what a value that the code hands out says (XPath 1.0, section 5).
use Rattle.std.specs.Prelude.{ℕ, List, Option}
use Rattle.std.specs.Str.{chars}
use Rattle.serna_kinds.specs.declared.cells.NodeName.{NodeName}
use Rattle.serna_kinds.specs.declared.cells.NameId.{NameId}
use Rattle.serna_kinds.specs.declared.cells.Kind.{Kind}
use Rattle.serna_kinds.specs.declared.cells.AttrPair.{AttrPair}
use Rattle.serna_kinds.specs.declared.cells.CellValue.{CellValue}
use Rattle.serna_kinds.specs.declared.cells.CellValue.TheVariants as value

-- a node's kind with an element's name; its children; its parent; its attributes; its characters
pub data Content : Type 0 where
  Label : Kind → Option NameId → Content
  Kids : List NodeName → Content
  Up : Option NodeName → Content
  Attrs : List AttrPair → Content
  Text : List ℕ → Content

abbrev pub content_of : CellValue → Content
content_of (value.Label kind name) = Label kind name
content_of (value.Kids kids) = Kids kids.now
content_of (value.Up parent) = Up parent
content_of (value.Attrs pairs) = Attrs pairs.now
content_of (value.Text text) = Text (chars text.now)
