-- The source that a tree begins: the document node has the number 0, and all nodes below it have the numbers from 1 in document order.
use Rattle.std.specs.Prelude.{ℕ, ◌+◌, List, [], ◌∷◌}
use Rattle.serna_kinds.specs.Names.{Space}
use Rattle.tree_lines.specs.declared.tree.TreeItem.{TreeItem}
use Rattle.tree_lines.specs.declared.tree.TreeItem.TheVariants as item
use Rattle.tree_lines.specs.Given.{Given, count_of}
use Rattle.tree_lines.specs.Given as given
use Rattle.source_model.specs.Source.{Forest, Source}
use Rattle.source_model.specs.Source as source
use Rattle.source_model.specs.Cells.{named}
use Rattle.source_primitives.specs.declared.primitive.SubItem.{SubItem}
use Rattle.source_primitives.specs.declared.primitive.SubItem.TheVariants as sub

-- the nodes of a tree, numbered from k in document order
abbrev pub numbered : ℕ → Given → Forest
numbered k given.end = source.none
numbered k (given.text t rest) = source.node k (source.Text t) source.none (numbered (k + 1) rest)
numbered k (given.comment t rest) = source.node k (source.Comment t) source.none (numbered (k + 1) rest)
numbered k (given.element name attributes line content rest) =
    source.node k (source.Element name attributes) (numbered (k + 1) content) (numbered (k + 1 + count_of content) rest)

unfoldable pub begun : List Space → Given → Source
begun spaces tree = record { tree = source.node 0 source.Root (numbered 1 tree) source.none; made = count_of tree; spaces = spaces }

-- the items of a tree, its nodes numbered from k, and how many nodes there are
abbrev pub numbering : ℕ → List TreeItem → List SubItem
numbering k [] = []
numbering k (item.Begin name attributes line ∷ items) = sub.Begin (named k) name attributes ∷ numbering (k + 1) items
numbering k (item.Text text ∷ items) = sub.Text (named k) text ∷ numbering (k + 1) items
numbering k (item.Comment text ∷ items) = sub.Comment (named k) text ∷ numbering (k + 1) items
numbering k (item.Finish ∷ items) = sub.Finish ∷ numbering k items

abbrev pub nodes_in : List TreeItem → ℕ
nodes_in [] = 0
nodes_in (item.Begin name attributes line ∷ items) = 1 + nodes_in items
nodes_in (item.Text text ∷ items) = 1 + nodes_in items
nodes_in (item.Comment text ∷ items) = 1 + nodes_in items
nodes_in (item.Finish ∷ items) = nodes_in items
