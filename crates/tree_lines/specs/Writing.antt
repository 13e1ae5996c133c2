-- What a writer of a tree's items holds between two items, and what it is still to write (this project's own).
use Rattle.std.specs.Prelude.{ℕ, List, [], ◌∷◌, ◌++◌}
use Rattle.serna_kinds.specs.declared.cells.NameId.{NameId}
use Rattle.serna_kinds.specs.Names.{NameParts, Space}
use Rattle.tree_lines.specs.declared.tree.TreeItem.{TreeItem}
use Rattle.tree_lines.specs.declared.tree.TreeItem.TheVariants as item
use Rattle.tree_lines.specs.Canonical.{text_line, comment_line, outermost_lines, end_line, line_text, text_of_lines}

-- the text so far, what the next element is to declare, and the names of the open elements, the innermost first
pub record Writing : Type 0 where
  pub text : List ℕ
  pub spaces : List Space
  pub open_names : List NameId

-- the text of the items that are left, where these elements are open; an end where none is open writes nothing
abbrev pub items_text : List NameParts → List Space → List NameId → List TreeItem → List ℕ
items_text names spaces open_names [] = []
items_text names spaces open_names (item.Begin name attributes line ∷ rest) =
    text_of_lines (outermost_lines names spaces name attributes) ++ items_text names [] (name ∷ open_names) rest
items_text names spaces open_names (item.Text t ∷ rest) = line_text (text_line t) ++ items_text names spaces open_names rest
items_text names spaces open_names (item.Comment t ∷ rest) = line_text (comment_line t) ++ items_text names spaces open_names rest
items_text names spaces [] (item.Finish ∷ rest) = items_text names spaces [] rest
items_text names spaces (name ∷ outer) (item.Finish ∷ rest) = line_text (end_line names name) ++ items_text names spaces outer rest

-- the text so far with that of the items that are left
abbrev pub written_with : List NameParts → Writing → List TreeItem → List ℕ
written_with names writing rest = writing.text ++ items_text names writing.spaces writing.open_names rest
