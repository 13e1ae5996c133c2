-- Which inputs are accepted, and what they say (this project's own): the line `!style NAME` and a stylesheet's lines, or neither; the line
-- `!document`, the document's lines, the line `!script`, and the script, each line after it being a command.
use Rattle.std.specs.Prelude.{◌≡◌, ℕ, ◌==◌, ◌≤◌, List, [], ◌∷◌, ◌++◌, IsTrue, length, Option, codes, if◌then◌else◌}
use Rattle.std.specs.List.{onto_first, AllByRecursion}
use Rattle.tree_lines.specs.Written.{Written, written_lines}
use Rattle.tree_lines.specs.Documents.{IsDocument}
use Rattle.plain_editor.specs.Plain.{is_plain}
use Rattle.plain_editor.specs.Sheets.{Sheet, sheet_lines, IsStyle, names_of, style_for, start}
use Rattle.plain_editor.specs.Sections.{Sections}

-- the lines of a text, each ended by LF; the last may lack it
abbrev pub lines_of : List ℕ → List (List ℕ)
lines_of [] = []
lines_of (b ∷ bs) = if b == 10 then [] ∷ lines_of bs else onto_first b (lines_of bs)

-- the line before a document, and the one before a script
abbrev pub document_head : List ℕ
document_head = codes "!document"

abbrev pub script_head : List ℕ
script_head = codes "!script"

-- the bytes of an input
abbrev pub input_limit : ℕ
input_limit = 16384

-- the input says this: it is a stylesheet, if it has one, a document in printable ASCII and a script, is not too long, and these are
-- their readings
pub record IsInput (input : List ℕ) (sections : Sections) : Type 0 where
  pub sheet : Option Sheet
  pub document : Written
  pub lines : lines_of input ≡ sheet_lines sheet ++ (document_head ∷ (written_lines document ++ (script_head ∷ sections.script)))
  pub styled : IsStyle sheet
  pub built : IsDocument document
  pub plain : AllByRecursion (λ line. IsTrue (is_plain line)) (written_lines document)
  pub short : length input ≤ input_limit
  pub names : sections.names ≡ names_of sheet document
  pub style : sections.style ≡ style_for sheet document
  pub source : sections.source ≡ start sheet document
