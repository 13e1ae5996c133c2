-- Which cells each slot has after a history of puts and drops. This project's own.
use Rattle.std.specs.Prelude.{◌≡◌, ◌≢◌, ℕ, List, [], ◌∷◌, ◌++◌, fold, All, Contains}
use Rattle.serna_kinds.specs.declared.cells.Cell.{Cell}
use Rattle.dependency_log.specs.Logged.{with_cells, each_once}

-- a slot is put with some cells, or it is dropped
pub data Event : Type 0 where
  Put : ℕ → List Cell → Event
  Dropped : ℕ → Event

-- the slot of an event
abbrev pub slot_in : Event → ℕ
slot_in (Put slot cells) = slot
slot_in (Dropped slot) = slot

-- the cells of each slot after one more event
abbrev pub after : (ℕ → List Cell) → Event → ℕ → List Cell
after old (Put slot cells) = with_cells old slot (each_once cells)
after old (Dropped slot) = with_cells old slot []

-- the cells of each slot after a history, of which the earliest event stands first
abbrev pub cells_after : List Event → ℕ → List Cell
cells_after history = fold after (λ slot. []) history

-- the last event of the slot is a put that names the cell
pub record LastNames (history : List Event) (slot : ℕ) (cell : Cell) : Type 0 where
  pub before : List Event
  pub cells : List Cell
  pub later : List Event
  pub cut : history ≡ before ++ Put slot cells ∷ later
  pub names : Contains cells cell
  pub untouched : All (λ event. slot_in event ≢ slot) later
