-- The cells of one node.
use Rattle.std.specs.Prelude.{ℕ, Option, None, unwrap_or}
use Rattle.serna_kinds.specs.declared.cells.Facet.{Facet}
use Rattle.serna_kinds.specs.declared.cells.Facet.TheVariants.{Label, Kids, Up, Attrs, Text}
use Rattle.frozen_tree.specs.declared.kept.CellChange.{CellChange}
use Rattle.frozen_tree.specs.declared.node.CellState.{CellState}
use Rattle.frozen_tree.specs.declared.node.NodeCells.{NodeCells}

-- the state of a cell that no change named: no value, and the stamp 0
abbrev pub no_state : CellState
no_state = record { value = None; stamp = 0 }

abbrev pub no_cells : NodeCells
no_cells = record { label = no_state; kids = no_state; up = no_state; attrs = no_state; text = no_state }

abbrev pub state_of : NodeCells → Facet → CellState
state_of cells Label = cells.label
state_of cells Kids = cells.kids
state_of cells Up = cells.up
state_of cells Attrs = cells.attrs
state_of cells Text = cells.text

abbrev pub with_state : Facet → CellState → NodeCells → NodeCells
with_state Label state cells = record cells { label = state }
with_state Kids state cells = record cells { kids = state }
with_state Up state cells = record cells { up = state }
with_state Attrs state cells = record cells { attrs = state }
with_state Text state cells = record cells { text = state }

-- the state of a cell after a change that names it: the change's value, and the revision where there is one
abbrev pub next_state : Option ℕ → CellChange → CellState → CellState
next_state revision change state = record { value = change.value; stamp = unwrap_or revision state.stamp }
