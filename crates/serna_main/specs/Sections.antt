-- What the sections of an input say: those of a stylesheet, of a document, and both together.
use Rattle.std.specs.Prelude.{◌≡◌, ℕ, List, [], ◌∷◌, ◌++◌, map, drop, length, ◌≤◌, IsTrue, Option}
use Rattle.std.specs.List.{AllByRecursion}
use Rattle.serna_kinds.specs.Names.{NameParts, Grows}
use Rattle.tree_lines.specs.Written.{Written, written_lines}
use Rattle.tree_lines.specs.Documents.{IsDocument}
use Rattle.tree_lines.specs.Given.{items_of, spaces_of, given_of}
use Rattle.tree_lines.specs.Tokens.{names_with, AreNamed}
use Rattle.tree_lines.specs.Whole.{ReadTree}
use Rattle.tree_lines.specs.declared.tree.Line.{Line}
use Rattle.source_model.specs.Source.{Source}
use Rattle.source_model.specs.Proper.{IsProper}
use Rattle.source_tree.specs.Begun.{begun}
use Rattle.style_sheet.specs.Sheet.{StyleValue}
use Rattle.plain_editor.specs.Plain.{is_plain}
use Rattle.plain_editor.specs.Input.{document_head, IsInput}
use Rattle.plain_editor.specs.Sections.{Sections}
use Rattle.plain_editor.specs.Sheets.{Sheet, is_sheet_name, sheet_head, sheet_lines, sheet_names, IsStyle, names_of, style_in, style_for, start}
use Rattle.serna_main.specs.declared.opening.Opening.{Opening}
use Rattle.serna_main.specs.declared.sections.Judged.{Judged}

-- each line is in printable ASCII
abbrev pub ArePlain : List (List ℕ) → Type 0
ArePlain lines = AllByRecursion (λ line. IsTrue (is_plain line)) lines

-- the lines are a document in printable ASCII with whose names the table grew, and this is its tree, with these numbers of lines
pub record IsRead (lines : List (List ℕ)) (old new : List NameParts) (tree : ReadTree) : Type 0 where
  pub document : Written
  pub built : IsDocument document
  pub plain : ArePlain (written_lines document)
  pub spelled : lines ≡ written_lines document
  pub table : new ≡ names_with old (written_lines document)
  pub grows : Grows old new
  pub numbers : List ℕ
  pub items : (later : List NameParts) → Grows new later → (other : Written) → IsDocument other → lines ≡ written_lines other → tree.items ≡ items_of (given_of later numbers other)
  pub spaces : (other : Written) → lines ≡ written_lines other → tree.spaces ≡ spaces_of other
  pub named : (later : List NameParts) → Grows new later → AreNamed later tree.items

-- no document in printable ASCII has these lines
abbrev pub IsNoDocument : List (List ℕ) → Type 0
IsNoDocument lines = (document : Written) → IsDocument document → ArePlain (written_lines document) → lines ≡ written_lines document → ⊥

-- the lines are those of a stylesheet or none, and these are its table of names and, in each table that grows from it, what it says
pub record IsStyled (lines : List (List ℕ)) (names : List NameParts) (said : StyleValue) : Type 0 where
  pub style : Option Sheet
  pub styled : IsStyle style
  pub spelled : lines ≡ sheet_lines style
  pub table : names ≡ sheet_names style
  pub read : (later : List NameParts) → Grows names later → said ≡ style_in later style

-- neither a stylesheet nor none has these lines
abbrev pub IsNoStyle : List (List ℕ) → Type 0
IsNoStyle lines = (style : Option Sheet) → IsStyle style → lines ≡ sheet_lines style → ⊥

-- the line is no head of a stylesheet
abbrev pub IsNoStyleHead : List ℕ → Type 0
IsNoStyleHead line = (name : List ℕ) → IsTrue (is_sheet_name name) → line ≡ sheet_head name → ⊥

-- the lines are a document in printable ASCII with whose names the table grew, and it begins this source
pub record Begins (lines : List (List ℕ)) (old new : List NameParts) (source : Source) : Type 0 where
  pub document : Written
  pub built : IsDocument document
  pub plain : ArePlain (written_lines document)
  pub spelled : lines ≡ written_lines document
  pub table : new ≡ names_with old (written_lines document)
  pub grows : Grows old new
  pub begins : source ≡ begun (spaces_of document) (given_of new [] document)
  pub proper : IsProper new source

-- the lines before a script: those of a stylesheet or none, and a document's behind its head
abbrev pub opening_lines : Option Sheet → Written → List (List ℕ)
opening_lines style document = sheet_lines style ++ (document_head ∷ written_lines document)

-- the lines are a stylesheet or none and a document, and these are the names, the style and the source that the editor starts with
pub record IsOpening (lines : List (List ℕ)) (opening : Opening) : Type 0 where
  pub style : Option Sheet
  pub document : Written
  pub styled : IsStyle style
  pub built : IsDocument document
  pub plain : ArePlain (written_lines document)
  pub spelled : lines ≡ opening_lines style document
  pub table : opening.names ≡ names_of style document
  pub compiled : opening.style ≡ style_for style document
  pub begins : opening.source.source ≡ start style document
  pub proper : IsProper opening.names opening.source.source

-- no stylesheet, nor none, and no document have these lines
abbrev pub IsNoOpening : List (List ℕ) → Type 0
IsNoOpening lines =
    (style : Option Sheet) (document : Written) → IsStyle style → IsDocument document → ArePlain (written_lines document) → lines ≡ opening_lines style document → ⊥

-- what the code keeps of an input says this
abbrev pub sections_kept : Judged → Sections
sections_kept judged = record {
  names = judged.names;
  style = judged.style;
  source = judged.source.source;
  script = map (λ (line : Line). line.bytes) (drop judged.first judged.lines.items);
}

-- the input says what the code keeps of it
pub record IsJudged (input : List ℕ) (judged : Judged) : Type 0 where
  pub is-input : IsInput input (sections_kept judged)
  pub within : judged.first ≤ length judged.lines.items
  pub proper : IsProper judged.names judged.source.source
