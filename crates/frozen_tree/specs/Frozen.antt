-- What clauses see of a frozen map: lists in lists, which they read through two functions alone.
use Rattle.std.specs.Prelude.{ℕ, ◌/◌, ◌%◌, List, [], Option, option_map}
use Rattle.serna_kinds.specs.declared.cells.Cell.{Cell}
use Rattle.frozen_tree.specs.declared.node.CellState.{CellState}
use Rattle.frozen_tree.specs.declared.node.NodeCells.{NodeCells}
use Rattle.frozen_tree.specs.Nodes.{no_cells, state_of}
use Rattle.frozen_tree.specs.Shelves.{place_in}
use Rattle.frozen_tree.specs.Maps.{CellMap, Stamps, kept_content}

-- branches of leaves of nodes
abbrev pub FrozenValue : Type 0
FrozenValue = List (Option (List (Option (List (Option NodeCells)))))

-- the cells of the node with that number
abbrev pub node_at : FrozenValue → ℕ → NodeCells
node_at top number = place_in no_cells (place_in [] (place_in [] top (number / 8192)) (number / 64 % 128)) (number % 64)

abbrev pub state_at : FrozenValue → Cell → CellState
state_at top cell = state_of (node_at top cell.node.0) cell.facet

-- the content of each cell, or none
abbrev pub cells_of : FrozenValue → CellMap
cells_of frozen cell = option_map kept_content (state_at frozen cell).value

-- the stamp of each cell
abbrev pub stamps_of : FrozenValue → Stamps
stamps_of frozen cell = (state_at frozen cell).stamp
