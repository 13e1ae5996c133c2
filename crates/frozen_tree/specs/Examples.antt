-- Changes of the texts of two nodes, for examples.
use Rattle.std.specs.Prelude.{ℕ, List, Some, None}
use Rattle.serna_kinds.specs.declared.cells.Cell.{Cell}
use Rattle.serna_kinds.specs.declared.cells.Facet.TheVariants as facet
use Rattle.frozen_tree.specs.declared.kept.CellChange.{CellChange}
use Rattle.frozen_tree.specs.declared.kept.KeptValue.TheVariants as kept

abbrev pub text_cell : ℕ → Cell
text_cell number = record { node = record { 0 = number }; facet = facet.Text }

abbrev pub puts : ℕ → List ℕ → CellChange
puts number text = record { cell = text_cell number; value = Some (kept.Text text) }

abbrev pub takes_out : ℕ → CellChange
takes_out number = record { cell = text_cell number; value = None }
