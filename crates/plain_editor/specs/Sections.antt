-- What the sections of an input say (this project's own).
use Rattle.std.specs.Prelude.{ℕ, List, Option}
use Rattle.serna_kinds.specs.Names.{NameParts}
use Rattle.tree_lines.specs.Written.{Written}
use Rattle.source_model.specs.Source.{Source}
use Rattle.style_sheet.specs.Sheet.{StyleValue}
use Rattle.plain_editor.specs.Sheets.{Sheet, names_of, style_for, start}

-- what an input says: the table of all names, the style, the source that the editor starts with, and the script
pub record Sections : Type 0 where
  pub names : List NameParts
  pub style : StyleValue
  pub source : Source
  pub script : List (List ℕ)

-- what a stylesheet or none, a document and a script say
abbrev pub sections_of : Option Sheet → Written → List (List ℕ) → Sections
sections_of sheet document script = record {
  names = names_of sheet document;
  style = style_for sheet document;
  source = start sheet document;
  script = script;
}
