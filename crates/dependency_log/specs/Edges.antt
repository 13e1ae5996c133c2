-- How edges say a log. Only this crate's own code speaks of them.
use Rattle.std.specs.Prelude.{◌≡◌, ◌≢◌, ℕ, ◌<◌, ◌≤◌, Bool, true, false, not, List, [], ◌∷◌, map, length, nat_eq, Option, Some, None, slice_index_or}
use Rattle.std.specs.List.{position_or_len, filter, IsDistinct}
use Rattle.index_lists.specs.Lists.{from_first}
use Rattle.index_lists.specs.Threads.{left_list, right_list, left_count, right_count, left_of, right_of, item_at, IsLive, IsWoven}
use Rattle.serna_kinds.specs.declared.cells.Cell.{Cell}
use Rattle.serna_kinds.specs.declared.cells.Facet.TheVariants.{Label}
use Rattle.serna_kinds.specs.Tape.{is_cell}
use Rattle.dependency_log.specs.declared.edges.Edges.{Edges}
use Rattle.dependency_log.specs.Logged.{Logged}

-- what stands for the cell of a number that no cell has
abbrev pub no_cell : Cell
no_cell = record { node = record { 0 = 0 }; facet = Label }

-- the cell, and the slot, of a number
abbrev pub cell_at : Edges → ℕ → Cell
cell_at e n = slice_index_or e.cells.keys n no_cell

abbrev pub slot_at : Edges → ℕ → ℕ
slot_at e n = slice_index_or e.slots.keys n 0

-- the number of a cell, and of a slot: one past the numbers where it has none
abbrev pub cell_number : Edges → Cell → ℕ
cell_number e cell = position_or_len (is_cell cell) e.cells.keys

abbrev pub slot_number : Edges → ℕ → ℕ
slot_number e slot = position_or_len (nat_eq slot) e.slots.keys

-- the cell, and the slot, of the edge at a place
abbrev pub cell_of : Edges → ℕ → Cell
cell_of e p = cell_at e (left_of e.threads p)

abbrev pub slot_of : Edges → ℕ → ℕ
slot_of e p = slot_at e (right_of e.threads p)

abbrev pub is_empty : List Cell → Bool
is_empty [] = true
is_empty (cell ∷ cells) = false

-- the cells of a slot
abbrev pub cells_in : Edges → ℕ → List Cell
cells_in e slot = map (cell_of e) (right_list e.threads (slot_number e slot))

-- those of some slots that have cells, each with its cells
abbrev pub with_some : (ℕ → List Cell) → List ℕ → List (ℕ × List Cell)
with_some cells slots = filter (λ entry. not (is_empty entry.1)) (map (λ slot. (slot, cells slot)) slots)

-- the log that the edges say
abbrev pub log_of : Edges → Logged
log_of e = record { slots = with_some (cells_in e) e.slots.keys }

-- the slots of the edges at a place and behind it in its cell's list; none where there is no place
abbrev pub slots_from : Edges → Option ℕ → List ℕ
slots_from e None = []
slots_from e (Some p) = map (slot_of e) (from_first p (left_list e.threads (left_of e.threads p)))

-- x is none, or the place of an edge
abbrev pub IsEdge : Edges → Option ℕ → Type 0
IsEdge e x = (p : ℕ) → x ≡ Some p → IsLive e.threads p

-- the invariant of a log: each cell and each slot has one number and a list, an edge is between numbers that
-- are given, and no two edges are between the same ones
pub record IsSound (e : Edges) : Type 0 where
  pub woven : IsWoven e.threads
  pub cells_apart : IsDistinct is_cell e.cells.keys
  pub slots_apart : IsDistinct nat_eq e.slots.keys
  pub lefts : length e.cells.keys ≤ left_count e.threads
  pub rights : length e.slots.keys ≤ right_count e.threads
  pub numbered : (p l r : ℕ) → item_at e.threads p ≡ Some (l, r) → (l < length e.cells.keys) × (r < length e.slots.keys)
  pub edges_apart : (p q : ℕ) (edge : ℕ × ℕ) → item_at e.threads p ≡ Some edge → item_at e.threads q ≡ Some edge → p ≡ q

-- but for one slot, the cells of each slot are as they were, and so are the numbers
pub record IsSameBut (old new : Edges) (slot : ℕ) : Type 0 where
  pub others : (s : ℕ) → s ≢ slot → cells_in new s ≡ cells_in old s
  pub cell_numbers : new.cells.keys ≡ old.cells.keys
  pub slot_numbers : new.slots.keys ≡ old.slots.keys
