-- Words for worked examples.
use Rattle.std.specs.Prelude.{ℕ, ℤ}
use Rattle.fo_tables.specs.declared.cells.Span.{Span}
use Rattle.fo_tables.specs.declared.cells.GridCell.{GridCell}
use Rattle.fo_tables.specs.Heights.{TallCell}

-- a cell of so many columns and rows
abbrev pub wide : ℕ → ℕ → Span
wide columns rows = record { columns = columns; rows = rows }

-- a cell in that row and column
abbrev pub placed : ℕ → ℕ → Span → GridCell
placed row column span = record { row = row; column = column; span = span }

-- its content is so high
abbrev pub tall : GridCell → ℤ → TallCell
tall cell height = record { cell = cell; height = height }
