-- Which cells each slot has, as contracts see it. This project's own.
use Rattle.std.specs.Prelude.{ℕ, Bool, List, [], fold, ◌==◌, if◌then◌else◌, nat_eq}
use Rattle.std.specs.List.{list_any}
use Rattle.std.specs.Map.{lookup}
use Rattle.std.specs.Option.{unwrap_or}
use Rattle.serna_kinds.specs.declared.cells.Cell.{Cell}
use Rattle.serna_kinds.specs.Tape.{is_cell, with_cell}

-- the slots that have cells, each with its cells
pub record Logged : Type 0 where
  pub slots : List (ℕ × List Cell)

-- no slot has a cell
abbrev pub nothing : Logged
nothing = record { slots = [] }

-- the cells of each slot
abbrev pub cells_of : Logged → ℕ → List Cell
cells_of log slot = unwrap_or (lookup (nat_eq slot) log.slots) []

-- each of some cells once, in the order in which they are first named
abbrev pub each_once : List Cell → List Cell
each_once cells = fold with_cell [] cells

-- the same cells of each slot, but that one slot has these in place of its own
abbrev pub with_cells : (ℕ → List Cell) → ℕ → List Cell → ℕ → List Cell
with_cells old slot cells s = if s == slot then cells else old s

-- whether a slot has a cell
abbrev pub has_cell : (ℕ → List Cell) → ℕ → Cell → Bool
has_cell old slot cell = list_any (is_cell cell) (old slot)
