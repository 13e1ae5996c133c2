-- What the code keeps of a cell with its height.
use Rattle.std.specs.Prelude.{◌≡◌, ℕ, ◌-◌, ◌<◌, [], List, length, get_or, map, drop, replicate}
use Rattle.std.specs.List.{filter, sum}
use Rattle.fo_tables.specs.declared.heights.Need.{Need}
use Rattle.fo_tables.specs.Sizes.{size}
use Rattle.fo_tables.specs.Heights.{TallCell, ends_in}

abbrev pub need_of : TallCell → Need
need_of tall = record { row = tall.cell.row; height = size tall.height }

abbrev pub still_needed : List ℕ → Need → ℕ
still_needed earlier need = need.height - sum (drop need.row earlier)

abbrev pub empty_rows : ℕ → List (List Need)
empty_rows rows = replicate rows []

-- for each row, what the cells that end in it need
pub record IsByLastRow (cells : List TallCell) (rows : ℕ) (ending : List (List Need)) : Type 0 where
  pub rows_are : length ending ≡ rows
  pub needs : (row : ℕ) → row < rows → get_or ending row [] ≡ map need_of (filter (ends_in row) cells)
