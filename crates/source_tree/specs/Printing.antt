-- When what is printed of a source reads back (this project's own).
use Rattle.std.specs.Prelude.{◌≡◌, ℕ, List}
use Rattle.std.specs.List.{AllByRecursion}
use Rattle.serna_kinds.specs.Names.{NameParts, Space, Grows}
use Rattle.tree_lines.specs.Written.{Written, written_lines}
use Rattle.tree_lines.specs.Documents.{IsDocument}
use Rattle.tree_lines.specs.Given.{spaces_of, given_of}
use Rattle.serna_kinds.specs.Apart.{AreApart}
use Rattle.tree_lines.specs.Canonical.{document_lines}
use Rattle.tree_lines.specs.Writable.{IsText, IsElementName, IsPair, IsWritable}
use Rattle.source_model.specs.Source.{Source}
use Rattle.source_model.specs.Attributes.{pair_of}
use Rattle.source_primitives.specs.declared.primitive.Primitive.{Primitive}
use Rattle.source_primitives.specs.declared.primitive.Primitive.TheVariants.{InsertText, RemoveText, InsertChild, RemoveChild, SetAttr, RemoveAttr, PutAttr}
use Rattle.source_primitives.specs.declared.primitive.SubItem.{SubItem}
use Rattle.source_primitives.specs.declared.primitive.SubItem.TheVariants as item
use Rattle.source_tree.specs.Begun.{begun}
use Rattle.source_tree.specs.Unnumbered.{document_of}

-- its document, with what it declares, can be written so that it reads back
abbrev pub IsPrintable : List NameParts → Source → Type 0
IsPrintable names source = IsWritable names source.spaces (document_of source)

-- an item of a subtree can be written: an element's name and its attributes, a text's or a comment's characters
abbrev pub IsWritableItem : List NameParts → List Space → SubItem → Type 0
IsWritableItem names spaces (item.Begin number name attributes) = IsElementName names spaces name × AllByRecursion (IsPair names spaces) attributes × AreApart names attributes
IsWritableItem names spaces (item.Text number text) = IsText text
IsWritableItem names spaces (item.Comment number text) = IsText text
IsWritableItem names spaces item.Finish = Unit {0}

-- what a prim puts in can be written
abbrev pub PutsWritable : List NameParts → List Space → Primitive → Type 0
PutsWritable names spaces (InsertText text place piece) = IsText piece
PutsWritable names spaces (RemoveText text from to) = Unit {0}
PutsWritable names spaces (InsertChild parent place items) = AllByRecursion (IsWritableItem names spaces) items
PutsWritable names spaces (RemoveChild parent place) = Unit {0}
PutsWritable names spaces (SetAttr element name value) = IsPair names spaces (pair_of name value)
PutsWritable names spaces (RemoveAttr element name) = Unit {0}
PutsWritable names spaces (PutAttr element place name value) = IsPair names spaces (pair_of name value)

-- the lines that are printed of a source are those of a document, which declares the same, and the source that this document begins,
-- over this table or one that grows from it, has the same document
pub record PrintsBack (names : List NameParts) (source : Source) : Type 0 where
  pub document : Written
  pub built : IsDocument document
  pub lines : document_lines names source.spaces (document_of source) ≡ written_lines document
  pub declared : spaces_of document ≡ source.spaces
  pub same : (table : List NameParts) → Grows names table → (numbers : List ℕ) → document_of (begun (spaces_of document) (given_of table numbers document)) ≡ document_of source
