-- For which sources, and for which places of its instance, an evaluation's answer is told (this project's own).
use Rattle.std.specs.Prelude.{◌≡◌, IsTrue, List, Option}
use Rattle.serna_kinds.specs.declared.cells.Cell.{Cell}
use Rattle.serna_kinds.specs.Content.{Content}
use Rattle.serna_kinds.specs.Names.{NameParts, Grows}
use Rattle.serna_kinds.specs.Tape.{TapeValue, Agrees}
use Rattle.source_model.specs.Source.{Source}
use Rattle.source_model.specs.Cells.{cell_of}
use Rattle.source_model.specs.Proper.{IsProper}

-- A source for which an answer holds that was made over a view and a table of names: it is proper under a table that grew from that
-- one, and has what the view has at each cell that was noted; and the view is, there, some source that is proper under the call's table.
pub record Sees (names : List NameParts) (log : List Cell) (view : Cell → Option Content) (table : List NameParts) (source : Source) : Type 0 where
  pub grows : Grows names table
  pub proper : IsProper table source
  pub agrees : Agrees log view (cell_of source)
  pub home : Source
  pub home_proper : IsProper names home
  pub home_agrees : Agrees log view (cell_of home)

-- a place for which an answer holds that was made at another one: the same, where the tape notes that position or size was read
abbrev pub StandsFor : {P : Type 0} → TapeValue → P → P → Type 0
StandsFor tape place other = IsTrue tape.place_read → other ≡ place
