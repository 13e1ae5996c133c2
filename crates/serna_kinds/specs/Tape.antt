-- The tape of an evaluation: the cells of a source that it read, and what follows from them (this project's own).
-- An evaluation is repeatable where each source that agrees on the log gives it the same answers.
use Rattle.std.specs.Prelude.{◌≡◌, ℕ, ◌++◌, ◌&&◌, ◌==◌, Bool, IsTrue, List, [], ◌∷◌, Option, Some, All, Contains, slice_get, if◌then◌else◌}
use Rattle.std.specs.List.{list_any}
use Rattle.serna_kinds.specs.declared.cells.Cell.{Cell}
use Rattle.serna_kinds.specs.declared.cells.Facet.{Facet}
use Rattle.serna_kinds.specs.declared.cells.Facet.TheVariants.{Label, Kids, Up, Attrs, Text}
use Rattle.serna_kinds.specs.Content.{Content}

-- the cells that were read, each once and in the order of their first reading; how many reads there were; and
-- whether the instance's position or size was read
pub record TapeValue : Type 0 where
  pub cells : List Cell
  pub count : ℕ
  pub place_read : Bool

abbrev pub facet_number : Facet → ℕ
facet_number Label = 0
facet_number Kids = 1
facet_number Up = 2
facet_number Attrs = 3
facet_number Text = 4

-- one facet of one node
abbrev pub is_cell : Cell → Cell → Bool
is_cell a b = a.node.0 == b.node.0 && facet_number a.facet == facet_number b.facet

-- the log with a cell: a cell that is there adds nothing, another goes last
abbrev pub with_cell : List Cell → Cell → List Cell
with_cell cells cell = if list_any (is_cell cell) cells then cells else cells ++ cell ∷ []

-- no cell stands at two places
abbrev pub AreDistinctCells : List Cell → Type 0
AreDistinctCells cells = (i j : ℕ) (cell : Cell) → slice_get cells i ≡ Some cell → slice_get cells j ≡ Some cell → i ≡ j

-- two sources agree on a log: each cell of it has the same content in both
abbrev pub Agrees : List Cell → (Cell → Option Content) → (Cell → Option Content) → Type 0
Agrees log map other = (cell : Cell) → Contains log cell → other cell ≡ map cell

-- what agrees with a source on the new log agrees with it on the old one
abbrev pub SeenBefore : List Cell → List Cell → (Cell → Option Content) → Type 0
SeenBefore old new map = (other : Cell → Option Content) → Agrees new map other → Agrees old map other

-- each cell of the log is allowed
abbrev pub Within : (Cell → Bool) → List Cell → Type 0
Within allowed log = All (λ cell. IsTrue (allowed cell)) log
