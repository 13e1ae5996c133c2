-- What is read of a whole document.
use Rattle.std.specs.Prelude.{◌≡◌, List}
use Rattle.serna_kinds.specs.Names.{Space}
use Rattle.tree_lines.specs.declared.tree.TreeItem.{TreeItem}
use Rattle.tree_lines.specs.Given.{Given, items_of, IsWhole}

-- its items in document order, and what its outermost element declares
pub record ReadTree : Type 0 where
  pub items : List TreeItem
  pub spaces : List Space

-- the items are those of a tree
pub record IsTree (items : List TreeItem) : Type 0 where
  pub given : Given
  pub same : items ≡ items_of given
  pub whole : IsWhole given
