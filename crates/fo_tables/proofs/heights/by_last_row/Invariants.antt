use Rattle.std.proofs.Common.{◌≡◌, ℕ, ◌<◌, [], length, get_or, map, take}
use Rattle.std.specs.List.{filter}
use Rattle.fo_tables.specs.Heights.{tall_cells, ends_in}
use Rattle.fo_tables.specs.Needs.{need_of}
use Rattle.fo_tables.proofs.heights.by_last_row.Given as goal

-- each row has what the cells so far need that end in it
abbrev pub invariant-loop-place : goal.invariant-loop-place
invariant-loop-place l = record {
  rows_are : length l.ending.items ≡ l.rows;
  needs : (row : ℕ) → row < l.rows → get_or l.ending.items row [] ≡ map need_of (filter (ends_in row) (take l.place (tall_cells l.cells l.heights)));
}
