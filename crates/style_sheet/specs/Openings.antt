-- The elements of the result that a reader has opened.
use Rattle.style_sheet.specs.declared.reader.Opened.{Opened as Stored}
use Rattle.style_sheet.specs.Steps.{Opened}

abbrev pub opened_by : Stored → Opened
opened_by one = record { name = one.name; attributes = one.attributes; before = one.before }
