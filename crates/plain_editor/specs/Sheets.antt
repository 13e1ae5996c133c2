-- The stylesheet of an input, the names and the source that an editor starts with (this project's own).
use Rattle.std.specs.Prelude.{◌≡◌, ℕ, ◌==◌, ◌&&◌, not, Bool, true, false, List, [], ◌∷◌, ◌++◌, length, IsTrue, Option, Some, None, codes}
use Rattle.std.specs.List.{list_any, range_with_len, AllByRecursion}
use Rattle.serna_kinds.specs.Names.{NameParts}
use Rattle.tree_lines.specs.Written.{Written, written_lines}
use Rattle.tree_lines.specs.Documents.{IsDocument}
use Rattle.tree_lines.specs.Tokens.{with_names, names_with}
use Rattle.tree_lines.specs.Given.{Given, spaces_of, given_of}
use Rattle.source_model.specs.Source.{Source}
use Rattle.source_tree.specs.Begun.{begun}
use Rattle.style_sheet.specs.Sheet.{StyleValue, no_style}
use Rattle.style_sheet.specs.Styles.{style_of, matched_names}
use Rattle.style_sheet.specs.Built.{is_built}
use Rattle.plain_editor.specs.Plain.{is_plain}

-- a stylesheet: its name, and its document
pub record Sheet : Type 0 where
  pub name : List ℕ
  pub document : Written

-- a name is printable ASCII without a space, and not empty
abbrev pub is_sheet_name : List ℕ → Bool
is_sheet_name [] = false
is_sheet_name (b ∷ bs) = is_plain (b ∷ bs) && not (list_any (λ c. c == 32) (b ∷ bs))

-- `!style NAME`, and the stylesheet's lines
abbrev pub sheet_head : List ℕ → List ℕ
sheet_head name = codes "!style " ++ name

abbrev pub sheet_lines : Option Sheet → List (List ℕ)
sheet_lines None = []
sheet_lines (Some sheet) = sheet_head sheet.name ∷ written_lines sheet.document

-- the numbers of its lines in the input, whose first line is the stylesheet's head
abbrev pub sheet_numbers : Sheet → List ℕ
sheet_numbers sheet = range_with_len 2 (length (written_lines sheet.document))

-- its tree, by a table of names
abbrev pub sheet_tree : List NameParts → Sheet → Given
sheet_tree names sheet = given_of names (sheet_numbers sheet) sheet.document

-- the table of the names of a stylesheet's document
abbrev pub own_names : Sheet → List NameParts
own_names sheet = names_with [] (written_lines sheet.document)

-- the stylesheet is a document in printable ASCII, and of the built form
pub record IsSheet (sheet : Sheet) : Type 0 where
  pub named : IsTrue (is_sheet_name sheet.name)
  pub written : IsDocument sheet.document
  pub plain : AllByRecursion (λ line. IsTrue (is_plain line)) (written_lines sheet.document)
  pub built : is_built (own_names sheet) (spaces_of sheet.document) (sheet_tree (own_names sheet) sheet) ≡ true

abbrev pub IsStyle : Option Sheet → Type 0
IsStyle None = Unit {0}
IsStyle (Some sheet) = IsSheet sheet

-- the table of the names of a stylesheet, and of those that its rules are for
abbrev pub sheet_names : Option Sheet → List NameParts
sheet_names None = []
sheet_names (Some sheet) =
    with_names (own_names sheet) (matched_names (spaces_of sheet.document) (sheet_tree (own_names sheet) sheet))

-- the table of all names: behind them those of the document's elements and attributes
abbrev pub names_of : Option Sheet → Written → List NameParts
names_of style document = names_with (sheet_names style) (written_lines document)

-- what the stylesheet says; without one the built-in rules alone hold
abbrev pub style_in : List NameParts → Option Sheet → StyleValue
style_in names None = no_style
style_in names (Some sheet) = style_of names (spaces_of sheet.document) (sheet_tree names sheet)

abbrev pub style_for : Option Sheet → Written → StyleValue
style_for style document = style_in (names_of style document) style

-- the source that the editor starts with, which has no numbers of lines
abbrev pub start : Option Sheet → Written → Source
start style document = begun (spaces_of document) (given_of (names_of style document) [] document)
